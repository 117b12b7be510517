-- Transfers of a run that were begun and did not end, by the history of a list that the run left.
use Rattle.std.specs.Prelude.{◌≢◌, ◌≤◌, ◌<◌, ℕ, false, true, List, [], length}
use Rattle.std.specs.List.{AllByRecursion}
use Rattle.log_record.specs.declared.rec.Placed.{Placed}
use Rattle.lock_core.specs.Transactions.{own_records_of}
use Rattle.job_queue.specs.Takings.{times}
use Rattle.txn_jobs.specs.Places.{NumberedJobs, number_at}
use Rattle.cli_threads.specs.RunStops.{EndsAs}

-- the transfer at this place has a record, and no end record
pub record IsUnended (jobs : NumberedJobs) (h : List Placed) (place : ℕ) : Type 0 where
  pub begun : own_records_of (number_at jobs place) h ≢ []
  pub unended : EndsAs jobs place h false

-- at most so many transfers have a record and no end record: no more different places are those of such
abbrev pub HasFewUnended : ℕ → NumberedJobs → List Placed → Type 0
HasFewUnended most jobs h = (places : List ℕ) → ((place : ℕ) → times place places ≤ 1)
    → AllByRecursion (IsUnended jobs h) places → length places ≤ most

-- each transfer before another that has a record has its end record
abbrev pub EndsInTurn : NumberedJobs → List Placed → Type 0
EndsInTurn jobs h = (i j : ℕ) → i < j → own_records_of (number_at jobs j) h ≢ [] → EndsAs jobs i h true
