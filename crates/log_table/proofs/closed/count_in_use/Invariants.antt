use Rattle.std.proofs.Common.{◌≡◌, ◌≤◌}
use Rattle.std.specs.Slots.{slots_items}
use Rattle.log_rule.specs.ClosedLog.{in_use}
use Rattle.log_table.proofs.closed.count_in_use.Given as goal

abbrev pub invariant-loop-slot : goal.invariant-loop-slot
invariant-loop-slot l = record {
  count : l.count ≡ in_use l.ring l.slot (slots_items l.closed.words);
  few : l.count ≤ l.slot;
}
