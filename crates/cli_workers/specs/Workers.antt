-- Workers of a run, before their work. Each has a number, from 0 on.
use Rattle.std.specs.Prelude.{◌≡◌, ℕ, ◌+◌, List, [], ◌∷◌, None, Vec, vec_len}
use Rattle.log_table.specs.declared.table.LogTable.{LogTable}
use Rattle.log_table.specs.declared.table.Seat.{Seat}
use Rattle.log_table.specs.HiredWorkers.{HasHired}
use Rattle.log_rule.specs.Books.{no_books}
use Rattle.log_table.specs.Seats.{IsOf, view_of}
use Rattle.ring_buffer.specs.Calls.{IsReady}
use Rattle.job_queue.specs.declared.jobs.Jobs.{Jobs}
use Rattle.job_queue.specs.declared.queue.Queue.{Queue}
use Rattle.job_queue.specs.Passes.{HasFirstPass, HasPassOf, IsSameQueue, marks_back, passes_out, places_back}
use Rattle.txn_runner.specs.Working.{HasRoomForRows, jobs_of, rows_in, places_in, marks_in}
use Rattle.cli_workers.specs.declared.workers.Worker.{Worker}

-- the worker is enrolled, and its rows have a pass of the queue; it has done nothing, and has room for its rows
pub record IsHired (table : LogTable) (queue : Queue) (worker : Worker) : Type 0 where
  pub seat : IsOf table worker.seat
  pub ready : IsReady (view_of worker.seat)
  pub entries : (view_of worker.seat).entries ≡ []
  pub books : (view_of worker.seat).books ≡ no_books
  pub pass : HasPassOf queue worker.rows
  pub fresh : (places_in worker.rows ≡ []) × (marks_in worker.rows ≡ [])
  pub room : HasRoomForRows (jobs_of queue) worker.rows
  pub rows : rows_in worker.rows ≡ []

-- and it did not serve yet
abbrev pub IsUnused : LogTable → Queue → Worker → Type 0
IsUnused table queue worker = (worker.worked ≡ None) × IsHired table queue worker

-- each element has this, by its number, the first by this one
abbrev pub Numbered : {A : Type 0} → (ℕ → A → Type 0) → ℕ → List A → Type 0
Numbered P number [] = Unit {0}
Numbered P number (x ∷ xs) = P number x × Numbered P (number + 1) xs

-- the worker of this number is unused
abbrev pub IsUnusedAs : LogTable → Queue → ℕ → Worker → Type 0
IsUnusedAs table queue number worker = (worker.seat.worker ≡ number) × IsUnused table queue worker

-- all workers of a run
abbrev pub AreUnused : LogTable → Queue → List Worker → Type 0
AreUnused table queue workers = Numbered (IsUnusedAs table queue) 0 workers

-- so many passes more are out; what was given back is as before
pub record HandsOut (count : ℕ) (old new : Jobs) : Type 0 where
  pub same : IsSameQueue old new
  pub out : passes_out new ≡ passes_out old + count
  pub places : places_back new ≡ places_back old
  pub marks : marks_back new ≡ marks_back old

-- All workers of a run, so many, were hired by this seat, which knows all of them. Each has its pass of the queue.
pub record HiresAll {Z : Type 0} (table : LogTable) (size : ℕ) (hirer : Seat) (old new : Jobs) (workers : Vec Worker Z) : Type 0 where
  pub flusher_seat : HasHired table size hirer
  pub jobs : HasFirstPass new
  pub out : HandsOut size old new
  pub unused : AreUnused table new.queue workers.items
  pub count : vec_len workers ≡ size
