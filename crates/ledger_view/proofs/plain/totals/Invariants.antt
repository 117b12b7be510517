use Rattle.std.proofs.Common.{◌≡◌, ◌≤◌, ◌*◌, take, reverse}
use Rattle.lock_core.specs.Records.{gain, loss}
use Rattle.lock_core.specs.Transactions.{is_committed}
use Rattle.lock_core.specs.Sums.{moved_by}
use Rattle.ledger_view.proofs.plain.totals.Given as goal

abbrev pub invariant-loop-entry : goal.invariant-loop-entry
invariant-loop-entry l = record {
  gain : l.added ≡ moved_by (λ txn. is_committed txn (reverse l.entries)) gain l.account (reverse (take l.entry-index l.entries));
  loss : l.taken ≡ moved_by (λ txn. is_committed txn (reverse l.entries)) loss l.account (reverse (take l.entry-index l.entries));
  most_added : l.added ≤ 2147483648 * l.entry-index;
  most_taken : l.taken ≤ 2147483648 * l.entry-index;
}
