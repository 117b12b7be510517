-- The jobs of tests: one leg between two accounts, and a note; and when a worker may take one.
use Rattle.std.specs.Prelude.{◌≡◌, ℕ, ◌<◌, ◌≤◌, Some, List, [], length}
use Rattle.std.specs.List.{AllByRecursion}
use Rattle.log_record.specs.declared.rec.Rec.TheVariants.{Note}
use Rattle.log_record.specs.Spelling.{spelling, IsTxn, IsNoteText}
use Rattle.lock_core.specs.declared.job.Job.{Job}
use Rattle.lock_core.specs.Transfers.{IsAllowedJob}
use Rattle.log_table.specs.declared.table.LogTable.{LogTable}
use Rattle.log_table.specs.declared.table.Seat.{Seat}
use Rattle.log_rule.specs.declared.view.TakenJob.{TakenJob}
use Rattle.log_rule.specs.declared.view.View.{View}
use Rattle.log_rule.specs.Books.{no_books}
use Rattle.log_table.specs.Seats.{IsOf, view_of}
use Rattle.ring_buffer.specs.Calls.{IsReady}

pub record IsNotedJob (job : Job) : Type 0 where
  pub allowed : IsAllowedJob 2 job
  pub text : List ℕ
  pub note : job.note ≡ Some text
  pub note_text : IsNoteText text

-- the units of the job's Note, under this number
abbrev pub AreNoteUnits : ℕ → Job → List ℕ → Type 0
AreNoteUnits number job units = (text : List ℕ) × (job.note ≡ Some text) × (1 ≤ length text) × (units ≡ spelling (Note number text))

-- the number is one of a transaction, and the seat holds no account and took no job of that number or one above
pub record IsFreeFor (number : ℕ) (view : View) : Type 0 where
  pub txn : IsTxn number
  pub none_held : view.books.held ≡ []
  pub above : AllByRecursion (λ (taken : TakenJob). taken.number < number) view.books.jobs

-- the seat is this table's, of a worker that may take a job of this number and insert its note
pub record MayInsert (table : LogTable) (number : ℕ) (seat : Seat) : Type 0 where
  pub own : IsOf table seat
  pub ready : IsReady (view_of seat)
  pub free : IsFreeFor number (view_of seat)

-- the seat is this table's, of a worker that has done nothing yet
pub record IsNew (table : LogTable) (seat : Seat) : Type 0 where
  pub own : IsOf table seat
  pub ready : IsReady (view_of seat)
  pub entries : (view_of seat).entries ≡ []
  pub books : (view_of seat).books ≡ no_books
