use Rattle.std.proofs.Common.{◌≡◌, cond, ◌∙◌, ap, sym, subst, eq-eqb, true}
use Rattle.ring_core.specs.LogLaws.{IsSoundLog}
use Rattle.ring_core.specs.LogView.{log_in}
use Rattle.ring_core.specs.RingLog.{RingLog, end_at, is_marked}
use Rattle.ring_core.proofs.LogKeeping.{raised-sound}
use Rattle.ring_core.proofs.ring_log.RingLog.raise.Goals as goal

pub invariant_of-self : goal.invariant_of-self
invariant_of-self c =
    let here = c.if-self-units.true ∙ c.units.ensures in
    let ends = c.end_at-self-inside.ensures ∙ ap (λ (l : RingLog). end_at c.args.base l.reservations) (sym c.self.view_is) in
    subst (λ n. IsSoundLog (record (log_in c.self.inside) { exposed = n }))
    (ap (λ b. cond b (end_at c.args.base c.self.inside.ranges.items) c.self.inside.exposed) (eq-eqb _ _ here) ∙ sym ends)
    (raised-sound (log_in c.self.inside) c.args.base c.self.invariant
    (subst (λ (l : RingLog). is_marked c.args.base l.reservations ≡ true) (sym c.self.view_is) c.requires))
