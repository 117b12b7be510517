use Rattle.std.proofs.Common.{◌∷◌, [], ◌++◌, ap, ap₂, ◌∙◌, subst, sym}
use Rattle.ring_core.specs.LogLaws.{IsSoundLog}
use Rattle.ring_core.specs.LogView.{log_in}
use Rattle.ring_core.specs.RingLog.{RingLog, HasRoom, reserved}
use Rattle.ring_core.proofs.LogKeeping.{reserved-sound}
use Rattle.ring_core.proofs.ring_log.RingLog.reserve.Goals as goal

pub invariant_of-self-2 : goal.invariant_of-self-2
invariant_of-self-2 c = subst (λ rs. IsSoundLog (record (reserved (log_in c.self.inside) c.args.n) { reservations = rs }))
    (sym (c.push_reserved.ensures.items ∙ ap₂ (λ rs r. rs ++ r ∷ []) c.reserve.ensures.items c.new.ensures))
    (reserved-sound (log_in c.self.inside) c.args.n c.self.invariant (subst (λ (l : RingLog). HasRoom l c.args.n) (sym c.self.view_is) c.requires))

pub returns-clause-ok : goal.returns-clause-ok
returns-clause-ok c =
    let ranges = c.push_reserved.ensures.items ∙ ap₂ (λ rs r. rs ++ r ∷ []) c.reserve.ensures.items c.new.ensures in
    (λ i. record (reserved (log_in c.self.inside) c.args.n) { reservations = ranges i }) ∙ ap (λ (l : RingLog). reserved l c.args.n) c.self.view_is
