-- How a script was shared out among the workers of a run.
use Rattle.std.specs.Prelude.{◌≡◌, ℕ, ◌≤◌, List, length}
use Rattle.std.specs.List.{AllByRecursion, concat}
use Rattle.job_queue.specs.Takings.{times, once_below}
use Rattle.txn_jobs.specs.Places.{NumberedJobs, Rises}

-- for each worker the places of the script that it took, in this order; and how many were taken in all, which are a prefix of the script
pub record Sharing : Type 0 where
  pub front : ℕ
  pub taken : List (List ℕ)

-- So many workers shared the jobs out so: the places of each rise, and each place of the prefix is one worker's, once.
pub record IsSharedOut (workers : ℕ) (jobs : NumberedJobs) (sharing : Sharing) : Type 0 where
  pub count : length sharing.taken ≡ workers
  pub rise : AllByRecursion Rises sharing.taken
  pub once : (place : ℕ) → times place (concat sharing.taken) ≡ once_below place sharing.front
  pub within : sharing.front ≤ length jobs.script
