use Rattle.std.proofs.Common.{negsuc, pos, [], ◌∷◌, arith}
use Rattle.log_record.specs.declared.rec.Rec.TheVariants.{Update}
use Rattle.lock_core.specs.History.{entry_at}
use Rattle.lock_core.specs.Witness.{cut}
use Rattle.recovery_tests.proofs.openings.goes_on.Goals as goal

pub take-requires-clause-taken : goal.take-requires-clause-taken
take-requires-clause-taken g c = let start = c.new-4.ensures in (cut, [], c.in-Ok.ensures, omega arith)

pub take-requires-2-clause-taken : goal.take-requires-2-clause-taken
take-requires-2-clause-taken g c =
    let start = c.new-4.ensures in let next = c.new-5.ensures in
    (cut, entry_at c.new-4.result (Update 2 1 (negsuc 29) c.new-2.result) ∷ [], c.in-Ok-take.ensures.taken cut [] c.in-Ok.ensures, omega arith)

pub take_commit-requires-clause-taken : goal.take_commit-requires-clause-taken
take_commit-requires-clause-taken g c =
    let next = c.new-5.ensures in let last = c.new-6.ensures in (
      cut,
      entry_at c.new-5.result (Update 2 0 (pos 30) c.new-3.result) ∷ entry_at c.new-4.result (Update 2 1 (negsuc 29) c.new-2.result) ∷ [],
      c.in-Ok-take-2.ensures.taken cut (entry_at c.new-4.result (Update 2 1 (negsuc 29) c.new-2.result) ∷ []) (c.in-Ok-take.ensures.taken cut [] c.in-Ok.ensures),
      omega arith,
    )
