use Rattle.std.proofs.Common.{[], ◌∷◌, arith}
use Rattle.log_record.specs.declared.rec.Rec.TheVariants.{Genesis}
use Rattle.lock_core.specs.History.{entry_at}
use Rattle.lock_core.specs.Sums.{no_opening}
use Rattle.recovery_tests.proofs.judging.takes_and_refuses.Goals as goal

pub take-requires-2-clause-taken : goal.take-requires-2-clause-taken
take-requires-2-clause-taken g c =
    let start = c.new-2.ensures in let next = c.new-3.ensures in
    (no_opening, entry_at c.new-2.result (Genesis 0 100) ∷ [], c.in-Ok-take.ensures.taken no_opening [] c.in-Ok.ensures, omega arith)

pub take-requires-3-clause-taken : goal.take-requires-3-clause-taken
take-requires-3-clause-taken g c =
    let next = c.new-3.ensures in let last = c.new-4.ensures in (
      no_opening,
      entry_at c.new-3.result (Genesis 1 0) ∷ entry_at c.new-2.result (Genesis 0 100) ∷ [],
      c.in-Ok-take-2.ensures.taken no_opening (entry_at c.new-2.result (Genesis 0 100) ∷ []) (c.in-Ok-take.ensures.taken no_opening [] c.in-Ok.ensures),
      omega arith,
    )
