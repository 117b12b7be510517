-- Places of the script, as a seat takes the jobs there.
use Rattle.std.specs.Prelude.{ℕ, List, [], ◌∷◌, ◌++◌}
use Rattle.log_rule.specs.declared.view.TakenJob.{TakenJob}
pub use Rattle.txn_jobs.specs.Places.{NumberedJobs, number_at, job_at, IsOneOf, Rises, AreOfScript}

-- the job at this place, as a seat takes it
abbrev pub taken_at : NumberedJobs → ℕ → TakenJob
taken_at jobs place = record { number = number_at jobs place; job = job_at jobs place }

-- those at these places, newest first
abbrev pub jobs_taken : NumberedJobs → List ℕ → List TakenJob
jobs_taken jobs [] = []
jobs_taken jobs (place ∷ places) = jobs_taken jobs places ++ taken_at jobs place ∷ []
