-- Jobs of which some rows have a pass, such rows, and a worker that has them.
use Rattle.std.specs.Prelude.{◌≡◌, ℕ, ◌+◌, List, [], All}
use Rattle.std.specs.List.{AllByRecursion}
use Rattle.lock_core.specs.Transfers.{IsAllowedJob}
use Rattle.log_table.specs.HiredWorkers.{HasHired}
use Rattle.log_table.specs.declared.table.LogTable.{LogTable}
use Rattle.log_table.specs.declared.table.Seat.{Seat}
use Rattle.job_queue.specs.declared.jobs.Jobs.{Jobs}
use Rattle.job_queue.specs.declared.queue.Queue.{Queue}
use Rattle.job_queue.specs.declared.rows.Rows.{Rows}
use Rattle.job_queue.specs.Passes.{HasFirstPass, HasPassOf, IsSameQueue, jobs_of, marks_back, marks_in, passes_out, places_back}
use Rattle.job_queue.specs.Passes.{places_in, rows_in, workers_of}
use Rattle.txn_runner.specs.Working.{HasRoomForRows}
use Rattle.test_rig.specs.NotedJobs.{IsNew}
use Rattle.run_rig.specs.declared.crew.Hand.{Hand}

-- so many passes are out, and none is back
pub record HasEnlisted (count : ℕ) (jobs : Jobs) : Type 0 where
  pub first : HasFirstPass jobs
  pub out : passes_out jobs ≡ count
  pub back : marks_back jobs ≡ []
  pub places : places_back jobs ≡ []

-- the rows have a pass that took nothing, and room for a row of each transfer
pub record IsEnlisted (queue : Queue) (rows : Rows) : Type 0 where
  pub pass : HasPassOf queue rows
  pub places : places_in rows ≡ []
  pub marks : marks_in rows ≡ []
  pub none : rows_in rows ≡ []
  pub room : HasRoomForRows (jobs_of queue) rows

-- jobs between two accounts, for so many workers, none of which is enlisted
pub record AreFreshJobs (count : ℕ) (jobs : Jobs) : Type 0 where
  pub none : HasEnlisted 0 jobs
  pub allowed : All (IsAllowedJob 2) jobs.queue.script
  pub workers : workers_of jobs ≡ count

-- one more, of this number, has such rows; the queue stays the same
pub record Enlists (number : ℕ) (old new : Jobs) (rows_made : Rows) : Type 0 where
  pub jobs : HasEnlisted (number + 1) new
  pub same : IsSameQueue old new
  pub rows : IsEnlisted new.queue rows_made

-- the table may make each transfer of the queue
abbrev pub AllowsAll : LogTable → Queue → Type 0
AllowsAll table queue = All (IsAllowedJob table.accounts) queue.script

-- the worker has done nothing yet, and has such rows
pub record IsHand (table : LogTable) (queue : Queue) (hand : Hand) : Type 0 where
  pub seat : IsNew table hand.seat
  pub rows : IsEnlisted queue hand.rows

-- the next worker is hired, and has rows
pub record Hires (table : LogTable) (number : ℕ) (boss_new : Seat) (old new : Jobs) (made : Hand) : Type 0 where
  pub flusher_seat : HasHired table (number + 1) boss_new
  pub jobs : HasEnlisted (number + 1) new
  pub same : IsSameQueue old new
  pub hand : IsHand table new.queue made

-- each of these workers has
abbrev pub AreHands : LogTable → Queue → List Hand → Type 0
AreHands table queue hands = AllByRecursion (IsHand table queue) hands
