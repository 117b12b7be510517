use Rattle.std.proofs.Common.{◌≡◌, take, reverse}
use Rattle.lock_core.specs.Transactions.{is_committed}
use Rattle.ledger_view.proofs.plain.is_committed.Given as goal

abbrev pub invariant-loop-entry : goal.invariant-loop-entry
invariant-loop-entry l = l.is_there ≡ is_committed l.txn (reverse (take l.entry-index l.entries))
