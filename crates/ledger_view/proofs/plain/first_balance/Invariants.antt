use Rattle.std.proofs.Common.{◌≡◌, take, reverse}
use Rattle.lock_core.specs.Lawful.{base_with}
use Rattle.lock_core.specs.AccountRows.{opening_of}
use Rattle.ledger_view.proofs.plain.first_balance.Given as goal

abbrev pub invariant-loop-entry : goal.invariant-loop-entry
invariant-loop-entry l = l.balance ≡ (base_with (opening_of l.opening) (reverse (take l.entry-index l.entries))).balance l.account
