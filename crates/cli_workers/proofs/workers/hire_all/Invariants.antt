use Rattle.std.proofs.Common.{◌≡◌, vec_len, vec_capacity}
use Rattle.log_table.specs.HiredWorkers.{HasHired}
use Rattle.job_queue.specs.Passes.{HasFirstPass}
use Rattle.cli_workers.specs.Workers.{AreUnused, HandsOut}
use Rattle.cli_workers.proofs.workers.hire_all.Given as goal

abbrev pub invariant-loop-number : goal.invariant-loop-number
invariant-loop-number l = record {
  flusher_seat : HasHired l.table l.number l.flusher_seat;
  jobs : HasFirstPass l.jobs;
  out : HandsOut l.number l.initial.jobs l.jobs;
  unused : AreUnused l.table l.jobs.queue l.workers.items;
  count : vec_len l.workers ≡ l.number;
  room : vec_capacity l.workers ≡ vec_capacity l.initial.workers;
}
