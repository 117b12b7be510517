use Rattle.std.proofs.Common.{◌∙◌, ap, sym, eq-eqb}
use Rattle.ring_core.specs.RingLog.{Reservation, size_of}
use Rattle.ring_core.proofs.range.RingRange.mark.Goals as goal

pub returns-then-is_full-clause-full : goal.returns-then-is_full-clause-full
returns-then-is_full-clause-full c =
    let filled = ap (λ (r : Reservation). r.filled) c.self.view_is in let size = ap size_of c.self.view_is in
    ((λ _. sym filled ∙ c.if-is_full.true ∙ size), (λ full. eq-eqb _ _ (filled ∙ full ∙ sym size)))
