use Rattle.std.proofs.Common.{◌≡◌, replicate, vec_len, vec_capacity}
use Rattle.slot_core.specs.State.{empty_group}
use Rattle.slot_core.proofs.run.changes.empty_groups.Given as goal

abbrev pub invariant-loop-made : goal.invariant-loop-made
invariant-loop-made l = record {
  items : l.groups.items ≡ replicate l.made empty_group;
  count : vec_len l.groups ≡ l.made;
  room : vec_capacity l.groups ≡ vec_capacity l.initial.groups;
}
