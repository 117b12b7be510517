use Rattle.std.proofs.Common.{◌≡◌, take, reverse}
use Rattle.lock_core.specs.AccountRows.{opening_of}
use Rattle.ledger_view.specs.Entries.{entries_of}
use Rattle.ledger_view.proofs.plain.plain_entries.Given as goal

abbrev pub invariant-entries : goal.invariant-entries
invariant-entries l = l.found ≡ entries_of (opening_of l.opening) (reverse (take l.i l.entries)) l.account
