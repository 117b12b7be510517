use Rattle.std.proofs.Common.{take, reverse}
use Rattle.lock_core.proofs.OwnLemmas.{Gathers}
use Rattle.lock_core.proofs.plain.own.own_records.Given as goal

abbrev pub invariant-loop-entry : goal.invariant-loop-entry
invariant-loop-entry l = Gathers l.txn (reverse (take l.entry-index l.entries)) l.own.is_ended l.own.changes.items
