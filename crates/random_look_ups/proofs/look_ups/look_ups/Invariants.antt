use Rattle.std.proofs.Common.{◌≤◌, ◌*◌}
use Rattle.lsn_space.specs.declared.opening.TheConstants.{MOST_BALANCE}
use Rattle.random_look_ups.proofs.look_ups.look_ups.Given as goal

abbrev pub invariant-look_ups : goal.invariant-look_ups
invariant-look_ups l = record {
  sum : l.found.sum ≤ MOST_BALANCE * l.counter;
  unknown : l.found.unknown ≤ l.counter;
}
