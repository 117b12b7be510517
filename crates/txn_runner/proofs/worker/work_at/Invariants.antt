use Rattle.std.proofs.Common.{◌≡◌, ◌-◌, [], length}
use Rattle.job_queue.specs.Passes.{HasPassOf}
use Rattle.txn_parts.specs.Desk.{WorksOn, view_at}
use Rattle.txn_runner.specs.Working.{jobs_of, marks_in, places_in, HasRoomForRows}
use Rattle.txn_runner.proofs.ProgressLemmas.{Progress}
use Rattle.txn_runner.proofs.worker.work_at.Given as goal

abbrev pub invariant-jobs : goal.invariant-jobs
invariant-jobs g l = record {
  works : WorksOn g.Q.Relief l.fn.desk l.desk;
  none_held : (view_at l.desk).books.held ≡ [];
  pass : HasPassOf l.queue l.rows;
  mark : marks_in l.rows ≡ [];
  room : HasRoomForRows (jobs_of l.queue) l.rows;
  progress : Progress (jobs_of l.queue) (places_in l.fn.rows) (places_in l.rows) l.wait l.fn.rows l.rows (view_at l.fn.desk)
      (view_at l.desk);
}

abbrev pub decreases-jobs : goal.decreases-jobs
decreases-jobs g l = length l.queue.script - length (places_in l.rows)
