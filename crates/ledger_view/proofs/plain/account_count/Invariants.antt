use Rattle.std.proofs.Common.{◌≡◌, ◌≤◌, ◌+◌, take, reverse}
use Rattle.lock_core.specs.Lawful.{base_with}
use Rattle.lock_core.specs.AccountRows.{opening_of}
use Rattle.ledger_view.proofs.plain.account_count.Given as goal

abbrev pub invariant-loop-entry : goal.invariant-loop-entry
invariant-loop-entry l = record {
  counted : l.count ≡ (base_with (opening_of l.opening) (reverse (take l.entry-index l.entries))).accounts;
  most : l.count ≤ 4294967295 + l.entry-index;
}
