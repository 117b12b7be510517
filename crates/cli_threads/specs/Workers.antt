-- Workers of a run, once they were started and after their work. Each has a number, from 0 on.
use Rattle.std.specs.Prelude.{◌≡◌, ℕ, ◌≤◌, Bool, true, List, [], MatchOption, IsSomeAnd, Vec, vec_len, vec_capacity}
use Rattle.log_table.specs.declared.table.LogTable.{LogTable}
use Rattle.log_rule.specs.declared.view.Role.TheVariants.{Ended}
use Rattle.log_table.specs.Seats.{IsOf, view_of}
use Rattle.txn_jobs.specs.declared.cause.Worked.{Worked}
use Rattle.job_queue.specs.declared.queue.Queue.{Queue}
use Rattle.job_queue.specs.Passes.{HasPassOf}
use Rattle.txn_runner.specs.Places.{jobs_taken}
use Rattle.txn_runner.specs.Stages.{Ghosts as ReliefGhosts}
use Rattle.txn_runner.specs.Working.{EndsByMark, HasWorked, Works, jobs_of, places_in}
use Rattle.cli_workers.specs.declared.workers.Worker.{Worker}
use Rattle.cli_workers.specs.Workers.{AreUnused, IsHired, Numbered}
use Rattle.cli_threads.specs.declared.serving.Started.{Started}
use Rattle.cli_threads.specs.declared.serving.Started.TheVariants.{Running, NoThread}
use Rattle.cli_threads.specs.Waiting.{HaveWaited, made_of}

-- the worker did its work, which came to this, and has ended; where it waits, each transfer not cut off has waited (`HaveWaited`)
pub record HasServed (table : LogTable) (queue : Queue) (wait : Bool) (worker : Worker) (worked : Worked) : Type 0 where
  pub seat : IsOf table worker.seat
  pub ended : (view_of worker.seat).standing.role ≡ Ended
  pub pass : HasPassOf queue worker.rows
  pub jobs_are : (view_of worker.seat).books.jobs ≡ jobs_taken (jobs_of queue) (places_in worker.rows)
  pub has : HasWorked (jobs_of queue) (places_in worker.rows) (view_of worker.seat)
  pub works : Works (jobs_of queue) [] (places_in worker.rows) true worked (view_of worker.seat)
  pub mark : EndsByMark worked worker.rows
  pub waited : wait ≡ true → HaveWaited (jobs_of queue) (made_of (places_in worker.rows) worked) (view_of worker.seat).entries
      (view_of worker.seat).books.given

-- it did its work
abbrev pub IsDone : LogTable → Queue → Bool → Worker → Type 0
IsDone table queue wait worker = IsSomeAnd worker.worked (HasServed table queue wait worker)

-- the worker of this number did its work; where that was done here, this relief was asked to rest meanwhile, any number of times
pub record Serves {Q : Type 0} (g : ReliefGhosts Q) (table : LogTable) (queue : Queue) (wait : Bool) (own : ℕ) (worker : Worker) (old new : Q)
    : Type 0 where
  pub number : worker.seat.worker ≡ own
  pub done : IsDone table queue wait worker
  pub relief : g.ready new
  pub later : g.later old new

-- it did, or is as it was hired
abbrev pub ComesBack : LogTable → Queue → Bool → Worker → Type 0
ComesBack table queue wait worker = MatchOption worker.worked (IsHired table queue worker) (HasServed table queue wait worker)

-- the number of the worker that runs, or was done here
abbrev pub number_of : Started → ℕ
number_of (Running child) = child.promise.number
number_of (NoThread worker) = worker.seat.worker

-- its thread promises a worker that comes back, or it has none and is done
abbrev pub IsStarted : LogTable → Queue → Bool → Started → Type 0
IsStarted table queue wait (Running child) =
    (child.promise.table.value ≡ table) × (child.promise.queue.value ≡ queue) × (child.promise.wait ≡ wait)
IsStarted table queue wait (NoThread worker) = IsDone table queue wait worker

-- the worker of this number is started, or done
abbrev pub IsStartedAs : LogTable → Queue → Bool → ℕ → Started → Type 0
IsStartedAs table queue wait number started = (number_of started ≡ number) × IsStarted table queue wait started

abbrev pub IsDoneAs : LogTable → Queue → Bool → ℕ → Worker → Type 0
IsDoneAs table queue wait number worker = (worker.seat.worker ≡ number) × IsDone table queue wait worker

-- all workers of a run
abbrev pub AreStarted : LogTable → Queue → Bool → List Started → Type 0
AreStarted table queue wait started = Numbered (IsStartedAs table queue wait) 0 started

abbrev pub AreDone : LogTable → Queue → Bool → List Worker → Type 0
AreDone table queue wait workers = Numbered (IsDoneAs table queue wait) 0 workers

-- No worker has served yet; each has one of so many flags, and there is room for it once it is started.
pub record MayStartAll {Y Z : Type 0} (table : LogTable) (queue : Queue) (size : ℕ) (hands : Vec Worker Y) (places : Vec Started Z)
    : Type 0 where
  pub workers : AreUnused table queue hands.items
  pub flags : vec_len hands ≤ size
  pub none : places.items ≡ []
  pub room : vec_len hands ≤ vec_capacity places
