use Rattle.std.proofs.Common.{[], ◌∷◌, arith}
use Rattle.log_record.specs.declared.rec.Rec.TheVariants.{Genesis}
use Rattle.lsn_space.specs.Opening.{no_opening}
use Rattle.lock_core.specs.History.{entry_at}
use Rattle.lock_core.specs.AccountRows.{opening_of}
use Rattle.recovery_tests.proofs.view_adding.adds_and_refuses.Goals as goal

pub add-requires-2-clause-taken : goal.add-requires-2-clause-taken
add-requires-2-clause-taken g c =
    let start = c.new-2.ensures in let next = c.new-3.ensures in
    (opening_of no_opening, entry_at c.new-2.result (Genesis 0 100) ∷ [], c.in-Ok-add.ensures.taken (opening_of no_opening) [] c.in-Ok.ensures, omega arith)

pub add-requires-3-clause-taken : goal.add-requires-3-clause-taken
add-requires-3-clause-taken g c =
    let next = c.new-3.ensures in let last = c.new-4.ensures in (
      opening_of no_opening,
      entry_at c.new-3.result (Genesis 1 0) ∷ entry_at c.new-2.result (Genesis 0 100) ∷ [],
      c.in-Ok-add-2.ensures.taken (opening_of no_opening) (entry_at c.new-2.result (Genesis 0 100) ∷ [])
          (c.in-Ok-add.ensures.taken (opening_of no_opening) [] c.in-Ok.ensures),
      omega arith,
    )
