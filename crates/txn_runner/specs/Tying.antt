-- What ties the table's rule to the queue's, at one moment: the books of all seats and the passes of the queue.
use Rattle.std.specs.Prelude.{◌≡◌, ◌≤◌, ℕ, List}
use Rattle.log_rule.specs.declared.view.View.{View}
use Rattle.log_rule.specs.Moments.{jobs_of_all}
use Rattle.job_queue.specs.declared.takings.Takings.{Takings}
use Rattle.job_queue.specs.Takings.{times, times_in}
use Rattle.lsn_space.specs.Lists.{summed}
use Rattle.txn_runner.specs.Places.{NumberedJobs, jobs_taken}

-- The jobs in the books of these seats are the transfers at these places, and no place is among them more often than the passes took it.
pub record AreOfPasses (jobs : NumberedJobs) (passes : List Takings) (views : List View) : Type 0 where
  pub places : List ℕ
  pub jobs_are : jobs_of_all views ≡ jobs_taken jobs places
  pub taken : (place : ℕ) → times place places ≤ summed (times_in place) passes
