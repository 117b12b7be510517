-- The flusher's seat takes in the workers' seats, one after another.
use Rattle.std.specs.Prelude.{◌≡◌, ◌≤◌, ℕ, ◌+◌, List, [], ◌∷◌, ◌++◌, length, map, IsSome, Vec, vec_len}
use Rattle.std.specs.List.{AllByRecursion, concat}
use Rattle.std.specs.Option.{unwrap_or}
use Rattle.log_table.specs.declared.table.LogTable.{LogTable}
use Rattle.log_table.specs.declared.table.Seat.{Seat}
use Rattle.log_rule.specs.declared.view.Role.TheVariants.{Ended}
use Rattle.log_rule.specs.declared.view.View.{View}
use Rattle.log_table.specs.Seats.{IsOf, view_of}
use Rattle.log_rule.specs.CrewViews.{takes_in}
use Rattle.log_rule.specs.Sound.{HasReadStop}
use Rattle.txn_jobs.specs.declared.cause.Worked.{Worked}
use Rattle.txn_jobs.specs.declared.cause.Worked.TheVariants.{All}
use Rattle.job_queue.specs.declared.jobs.Jobs.{Jobs}
use Rattle.job_queue.specs.declared.queue.Queue.{Queue}
use Rattle.job_queue.specs.Passes.{HasFirstPass, HasPassOf, IsSameQueue, marks_back, passes_out, places_back}
use Rattle.job_queue.specs.Takings.{once_below, times}
use Rattle.txn_runner.specs.Working.{marks_in, places_in}
use Rattle.cli_workers.specs.declared.workers.Worker.{Worker}
use Rattle.cli_threads.specs.Shares.{Share}

-- the worker came to an end and left the table, and its rows still have their pass
pub record HasLeft (table : LogTable) (queue : Queue) (worker : Worker) : Type 0 where
  pub seat : IsOf table worker.seat
  pub ended : (view_of worker.seat).standing.role ≡ Ended
  pub worked : IsSome worker.worked
  pub pass : HasPassOf queue worker.rows

abbrev pub view_in : Worker → View
view_in worker = view_of worker.seat

-- what its work came to, where it did any
abbrev pub worked_of : Worker → Worked
worked_of worker = unwrap_or worker.worked All

abbrev pub share_of : Worker → Share
share_of worker = record { taken = places_in worker.rows; worked = worked_of worker }

-- the places and the marks that all of these took
abbrev pub all_places : List Worker → List ℕ
all_places workers = concat (map (λ (worker : Worker). places_in worker.rows) workers)

abbrev pub all_marks : List Worker → List ℕ
all_marks workers = concat (map (λ (worker : Worker). marks_in worker.rows) workers)

-- the view after all of these were taken in
abbrev pub takes_all : View → List View → View
takes_all view [] = view
takes_all view (other ∷ others) = takes_all (takes_in view other) others

-- The flusher's seat took in all workers' seats, none of which had last read a stop word but its own, the first pass took back theirs, and
-- this is what the work of each came to.
pub record GathersAll {Y Z : Type 0} (table : LogTable) (old new : Seat) (jobs_old jobs_new : Jobs) (workers : Vec Worker Y)
    (came : Vec Worked Z) : Type 0 where
  pub flusher_seat : IsOf table new
  pub view : view_of new ≡ takes_all (view_of old) (map view_in workers.items)
  pub stops : AllByRecursion (HasReadStop (view_of old).sending.stop) (map view_in workers.items)
  pub ends : came.items ≡ map worked_of workers.items
  pub jobs : HasFirstPass jobs_new
  pub same : IsSameQueue jobs_old jobs_new
  pub out : passes_out jobs_new + vec_len workers ≡ passes_out jobs_old
  pub places : places_back jobs_new ≡ places_back jobs_old ++ all_places workers.items
  pub marks : marks_back jobs_new ≡ marks_back jobs_old ++ all_marks workers.items

-- The places taken are a prefix of the script of so many, each once; and they are all of it where a mark was taken.
pub record AreFront (count : ℕ) (places marks : List ℕ) : Type 0 where
  pub front : ℕ
  pub within : front ≤ count
  pub once : (x : ℕ) → times x places ≡ once_below x front
  pub all : 1 ≤ length marks → front ≡ count
