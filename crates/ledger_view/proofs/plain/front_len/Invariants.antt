use Rattle.std.proofs.Common.{◌≡◌, ◌≤◌, take, reverse}
use Rattle.ledger_view.specs.Entries.{front_to}
use Rattle.ledger_view.proofs.plain.front_len.Given as goal

abbrev pub invariant-loop-i : goal.invariant-loop-i
invariant-loop-i l = record {
  count : l.len ≤ l.i;
  front : front_to (reverse (take l.i l.entries)) l.lsn ≡ reverse (take l.len l.entries);
}
