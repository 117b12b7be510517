use Rattle.std.proofs.Common.{◌≡◌, ◌≤◌, ◌+◌}
use Rattle.log_table.specs.Seats.{view_of}
use Rattle.test_rig.specs.NotedJobs.{MayInsert}
use Rattle.test_rig.proofs.notes.insert_all.Given as goal

abbrev pub invariant-loop-i : goal.invariant-loop-i
invariant-loop-i l = record {
  worker : MayInsert l.table (l.fn.first + l.i) l.seat;
  standing : (view_of l.seat).standing ≡ (view_of l.initial.seat).standing;
  count : l.done ≤ l.i;
}
