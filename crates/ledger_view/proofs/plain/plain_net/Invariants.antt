use Rattle.std.proofs.Common.{◌≡◌, ◌*◌, take, reverse, pos, neg_ℤ, ◌≤ℤ◌}
use Rattle.lock_core.specs.Transactions.{updates_of, touches}
use Rattle.ledger_view.specs.Entries.{net_of}
use Rattle.ledger_view.proofs.plain.plain_net.Given as goal

abbrev pub invariant-loop-entry : goal.invariant-loop-entry
invariant-loop-entry l = record {
  net : l.net ≡ net_of l.account (updates_of l.txn (reverse (take l.entry-index l.entries)));
  there : l.is_there ≡ touches l.account (updates_of l.txn (reverse (take l.entry-index l.entries)));
  least : neg_ℤ (pos (2147483648 * l.entry-index)) ≤ℤ l.net;
  most : l.net ≤ℤ pos (2147483648 * l.entry-index);
}
