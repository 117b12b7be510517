use Rattle.std.proofs.Common.{◌≡◌, take}
use Rattle.std.specs.List.{AllByRecursion}
use Rattle.lock_core.specs.AccountRows.{row}
use Rattle.lock_core.proofs.checks.are_current.Given as goal

abbrev pub invariant-loop-change : goal.invariant-loop-change
invariant-loop-change l = AllByRecursion (λ change. change.prev ≡ (row l.accounts.rows change.account).1) (take l.change-index l.changes)
