use Rattle.std.specs.List.{AllByRecursion}
use Rattle.log_table.specs.HiredWorkers.{HasHired}
use Rattle.job_queue.specs.Passes.{IsSameQueue}
use Rattle.run_rig.specs.Enlisted.{HasEnlisted, IsHand}
use Rattle.run_rig.proofs.crew.hands.Given as goal

abbrev pub invariant-loop-number : goal.invariant-loop-number
invariant-loop-number l = record {
  flusher_seat : HasHired l.table l.number l.flusher_seat;
  jobs : HasEnlisted l.number l.jobs;
  same : IsSameQueue l.initial.jobs l.jobs;
  hands : AllByRecursion (IsHand l.table l.jobs.queue) l.hands.items;
}
