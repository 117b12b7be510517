use Rattle.std.proofs.Common.{◌≡◌, ◌*◌, take, pos, neg_ℤ, ◌≤ℤ◌}
use Rattle.ledger_view.specs.Entries.{net_of}
use Rattle.ledger_view.proofs.net.net_of.Given as goal

abbrev pub invariant-loop-change : goal.invariant-loop-change
invariant-loop-change l = record {
  sum : l.net ≡ net_of l.account (take l.change-index l.changes);
  least : neg_ℤ (pos (2147483648 * l.change-index)) ≤ℤ l.net;
  most : l.net ≤ℤ pos (2147483648 * l.change-index);
}
