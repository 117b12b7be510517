-- What jobs and rows show of their passes.
use Rattle.std.specs.Prelude.{◌≡◌, ℕ, ◌+◌, ◌<◌, ◌≤◌, List, [], ◌∷◌, ◌++◌, length, Option, None, Some, IsSomeAnd}
use Rattle.std.specs.List.{AllByRecursion}
use Rattle.crossbeam_queue.specs.Passes.{Pass, view, IsPassOf}
use Rattle.lock_core.specs.declared.job.Job.{Job}
use Rattle.txn_jobs.specs.Places.{NumberedJobs, number_at, job_at}
use Rattle.txn_jobs.specs.declared.rows.Row.{Row}
use Rattle.txn_jobs.specs.Rows.{rows_in as told_in, room_of as told_room}
use Rattle.job_queue.specs.declared.jobs.Jobs.{Jobs}
use Rattle.job_queue.specs.declared.queue.Queue.{Queue}
use Rattle.job_queue.specs.declared.rows.Rows.{Rows}
use Rattle.job_queue.specs.declared.takings.Takings.{Takings}
use Rattle.job_queue.specs.Takings.{times, once_below, IsWorkers, IsFirst}

-- ---- the queue

-- the jobs whose places the queue hands out
abbrev pub jobs_of : Queue → NumberedJobs
jobs_of queue = record { script = queue.script; first = queue.first }

-- ---- rows

abbrev pub rows_in : Rows → List Row
rows_in rows = told_in rows.told

abbrev pub room_of : Rows → ℕ
room_of rows = told_room rows.told

abbrev pub pass_in : Rows → Option (Pass ℕ Takings)
pass_in rows = rows.pass

-- the places that a pass took, in the order in which it took them, and its mark, where it took that
abbrev pub places_by : Option (Pass ℕ Takings) → List ℕ
places_by None = []
places_by (Some pass) = (view pass).places

abbrev pub marks_by : Option (Pass ℕ Takings) → List ℕ
marks_by None = []
marks_by (Some pass) = (view pass).own_marks

abbrev pub places_in : Rows → List ℕ
places_in rows = places_by (pass_in rows)

abbrev pub marks_in : Rows → List ℕ
marks_in rows = marks_by (pass_in rows)

-- a worker's pass of the queue
pub record IsWorkersPass (queue : Queue) (pass : Pass ℕ Takings) : Type 0 where
  pub pass_of : IsPassOf queue.line pass
  pub knows : IsWorkers (length queue.script) (view pass)

abbrev pub HasPassOf : Queue → Rows → Type 0
HasPassOf queue rows = IsSomeAnd (pass_in rows) (IsWorkersPass queue)

-- the rows are those of before
pub record KeepsRows (old new : Rows) : Type 0 where
  pub rows : rows_in new ≡ rows_in old
  pub room : room_of new ≡ room_of old

-- the rows' pass took one place more, above those before, and this is its transfer, under this number
pub record TakesPlace (queue : Queue) (number : ℕ) (job : Job) (old new : Rows) : Type 0 where
  pub place : ℕ
  pub within : place < length queue.script
  pub above : AllByRecursion (λ before. before < place) (places_in old)
  pub places : places_in new ≡ places_in old ++ place ∷ []
  pub marks : marks_in new ≡ []
  pub number_is : number ≡ number_at (jobs_of queue) place
  pub job_is : job ≡ job_at (jobs_of queue) place

-- it took its mark
pub record TakesMark (queue : Queue) (old new : Rows) : Type 0 where
  pub mark : ℕ
  pub behind : length queue.script ≤ mark
  pub places : places_in new ≡ places_in old
  pub marks : marks_in new ≡ mark ∷ []

-- ---- jobs

-- the places and the marks that passes took which were given back
abbrev pub places_back : Jobs → List ℕ
places_back jobs = (view jobs.pass).places_back

abbrev pub marks_back : Jobs → List ℕ
marks_back jobs = (view jobs.pass).marks_back

-- how many passes are out, and for how many workers marks were put
abbrev pub passes_out : Jobs → ℕ
passes_out jobs = (view jobs.pass).out

abbrev pub workers_of : Jobs → ℕ
workers_of jobs = (view jobs.pass).marks

-- the jobs have the first pass of their queue
pub record HasFirstPass (jobs : Jobs) : Type 0 where
  pub pass_of : IsPassOf jobs.queue.line jobs.pass
  pub first : jobs.pass.id ≡ 0
  pub knows : IsFirst (length jobs.queue.script) (view jobs.pass)

-- the queue is the same, of as many workers
pub record IsSameQueue (old new : Jobs) : Type 0 where
  pub queue : new.queue ≡ old.queue
  pub workers : workers_of new ≡ workers_of old

-- no number was taken twice
abbrev pub AreTakenOnce : List ℕ → List ℕ → Type 0
AreTakenOnce places marks = (x : ℕ) → times x places + times x marks ≤ 1

-- The numbers taken are those below some one, each once; and all places are among them where a mark is.
pub record AreAllTaken (count : ℕ) (places marks : List ℕ) : Type 0 where
  pub next : ℕ
  pub once : (x : ℕ) → times x places + times x marks ≡ once_below x next
  pub all : 1 ≤ length marks → count < next
