-- The stages of one transfer: the seat takes the job, takes its accounts, inserts its records, and gives the accounts back.
use Rattle.std.specs.Prelude.{◌≡◌, ℕ, ◌≤◌, Bool, true, List, [], ◌∷◌, Result, IfOk, IfErr, All}
use Rattle.lock_core.specs.History.{end_from}
use Rattle.lock_core.specs.Transactions.{recs_of, has_end}
use Rattle.lock_core.specs.Transfers.{IsAllowedJob}
use Rattle.lock_core.specs.declared.job.Job.{Job}
use Rattle.log_table.specs.declared.table.LogTable.{LogTable}
use Rattle.log_table.specs.declared.table.Seat.{Seat}
use Rattle.log_rule.specs.declared.view.Books.{Books}
use Rattle.log_rule.specs.declared.view.Call.TheVariants.{Idle}
use Rattle.log_rule.specs.declared.view.View.{View}
use Rattle.log_rule.specs.Accounts.{MayBeTaken}
use Rattle.log_rule.specs.Books.{taking_job}
use Rattle.log_table.specs.Seats.{IsOf, view_of}
use Rattle.ring_buffer.specs.Calls.{IsReady, IsSameWorker, HasEntries}
use Rattle.job_queue.specs.declared.queue.Queue.{Queue}
use Rattle.job_queue.specs.declared.rows.Rows.{Rows}
use Rattle.job_queue.specs.Passes.{HasPassOf, TakesPlace, TakesMark, jobs_of, marks_in, places_in}
use Rattle.txn_jobs.specs.declared.cause.Cause.{Cause}
use Rattle.txn_parts.specs.declared.desk.Desk.{Desk}
use Rattle.txn_parts.specs.declared.taken_account.TakenAccount.{TakenAccount}
pub use Rattle.txn_parts.specs.declared.relief.Relief.{Ghosts}
use Rattle.txn_jobs.specs.declared.rows.Row.{Row}
use Rattle.txn_parts.specs.declared.ended.TransferEnd.{TransferEnd}
use Rattle.txn_making.specs.Endings.{release_at}
use Rattle.txn_making.specs.Holdings.{IsKnown, IsUnchanged, GoesBack, HoldsAll, KeepsGiven, given_behind}
use Rattle.txn_making.specs.Legs.{HoldsJob}
use Rattle.txn_runner.specs.Running.{HasRun, HasCut}
use Rattle.txn_runner.specs.Working.{HasRoomForRows, HasWorked}

-- this seat is the table's, enrolled, and has nothing under way, and this relief may be asked to rest
pub record IsWorker {Q : Type 0} (g : Ghosts Q) (table : LogTable) (own : Seat) (rests : Q) : Type 0 where
  pub seat : IsOf table own
  pub ready : IsReady (view_of own)
  pub relief : g.ready rests

-- The next transfer may be taken: no account is held, the table allows each transfer of the queue, the rows' pass is of this queue and may
-- take a place or its mark, and the seat has worked the places that it took.
pub record MayTakeNext (accounts : ℕ) (queue : Queue) (rows : Rows) (view : View) : Type 0 where
  pub none_held : view.books.held ≡ []
  pub allowed : All (IsAllowedJob accounts) queue.script
  pub pass : HasPassOf queue rows
  pub mark : marks_in rows ≡ []
  pub worked : HasWorked (jobs_of queue) (places_in rows) view

-- and the rows have room for all that are left
pub record MayWork (accounts : ℕ) (queue : Queue) (rows : Rows) (view : View) : Type 0 where
  pub next : MayTakeNext accounts queue rows view
  pub room : HasRoomForRows (jobs_of queue) rows

-- The rows' pass took a place, and the jobs of the seat grew by exactly the one there, under its number. It is the last job now, with no
-- record; accounts held and given back, and entries, are as they were, and nothing is under way.
pub record TakesNextJob (queue : Queue) (number : ℕ) (job : Job) (rows_old rows_new : Rows) (old new : Seat) : Type 0 where
  pub place : TakesPlace queue number job rows_old rows_new
  pub as_job : HasEntries old new (view_of old).entries (taking_job (record { number = number; job = job }) (view_of old).books)

-- the rows' pass took its mark, and the seat is as it was
pub record TakesNoJob (queue : Queue) (rows_old rows_new : Rows) (old new : Seat) : Type 0 where
  pub mark : TakesMark queue rows_old rows_new
  pub seat_is : new ≡ old

-- the seat took the job under this number, and nothing of it is in the log
pub record HasTakenJob (number : ℕ) (job : Job) (old new : View) : Type 0 where
  pub entries : new.entries ≡ old.entries
  pub grows : old.seen.tail ≤ new.seen.tail
  pub jobs : new.books.jobs ≡ record { number = number; job = job } ∷ old.books.jobs
  pub last : new.books.last ≡ record { number = number; job = job }
  pub given : new.books.given ≡ old.books.given
  pub none : new.books.placed ≡ []

-- the seat's last job is this one, which the table allows; nothing of it is in the log, and no account is held
pub record HasNextJob (accounts number : ℕ) (job : Job) (books : Books) : Type 0 where
  pub last : books.last ≡ record { number = number; job = job }
  pub allowed : MayBeTaken accounts (record { number = number; job = job })
  pub none_held : books.held ≡ []
  pub none : books.placed ≡ []

-- and the seat saw this stop word as it took the job
pub record HasBegun (accounts number : ℕ) (job : Job) (view : View) (stop : ℕ) : Type 0 where
  pub next : HasNextJob accounts number job view.books
  pub stop_is : view.seen.stop ≡ stop

-- The seat's last job may be made: nothing of it is in the log, and its accounts are held as they were taken, each once, and no other.
pub record MayMakeTransfer (accounts number : ℕ) (job : Job) (holdings : List TakenAccount) (books : Books) : Type 0 where
  pub holds : HoldsJob accounts number job holdings books
  pub all : HoldsAll holdings books
  pub known : All (IsKnown accounts) holdings
  pub unchanged : All IsUnchanged holdings
  pub none : books.placed ≡ []

-- The seat had taken the job, and took its accounts, has nothing under way, and is as contended as before. The log had not stopped when
-- that was seen last.
pub record TakesAccounts (accounts number : ℕ) (job : Job) (holdings : List TakenAccount) (old new : Seat) : Type 0 where
  pub same : IsSameWorker old new
  pub idle : (view_of new).call ≡ Idle
  pub contended : (view_of new).contended ≡ (view_of old).contended
  pub given : (view_of new).books.given ≡ (view_of old).books.given
  pub taken : (first : View) → HasTakenJob number job first (view_of old) → HasTakenJob number job first (view_of new)
  pub may : MayMakeTransfer accounts number job holdings (view_of new).books
  pub runs : (view_of new).seen.stop ≡ 0

-- The transfer's end record is in the log and ends there, and its accounts are held, and no other, with the values with which they go back.
pub record MayEndTransfer (accounts : ℕ) (ended : TransferEnd) (holdings : List TakenAccount) (books : Books) : Type 0 where
  pub is_last : end_from 0 books.placed ≡ ended.end
  pub has_ended : has_end (recs_of books.placed) ≡ true
  pub all : HoldsAll holdings books
  pub known : All (IsKnown accounts) holdings
  pub values : All (GoesBack (release_at ended.end ended.answer) books) holdings

-- The seat gave these accounts back, with the books that it had and the tail and the durable LSN that it has seen last. It has nothing
-- under way, holds none, has the entries and the other books that it had, and is as contended as before.
pub record GivesAll (holdings : List TakenAccount) (old new : Seat) : Type 0 where
  pub same : IsSameWorker old new
  pub idle : (view_of new).call ≡ Idle
  pub contended : (view_of new).contended ≡ (view_of old).contended
  pub entries : (view_of new).entries ≡ (view_of old).entries
  pub from : View
  pub from_books : from.books ≡ (view_of old).books
  pub from_tail : from.seen.tail ≡ (view_of new).seen.tail
  pub from_durable : from.seen.durable ≡ (view_of new).seen.durable
  pub books : (view_of new).books
      ≡ record (view_of old).books { held = []; given = given_behind from holdings (view_of old).books.given }

-- the worker's seat gave them back so
abbrev pub Gives : {R Q G : Type 0} → List TakenAccount → Desk R Q G → Desk R Q G → Type 0
Gives holdings old new = GivesAll holdings old.seat.now new.seat.now

-- The seat has nothing under way, is as contended as before, holds no account, and what it gave back before stands behind what it gave
-- back since.
pub record LetsGo (old new : Seat) : Type 0 where
  pub same : IsSameWorker old new
  pub idle : (view_of new).call ≡ Idle
  pub contended : (view_of new).contended ≡ (view_of old).contended
  pub none_held : (view_of new).books.held ≡ []
  pub given : KeepsGiven (view_of old) (view_of new)

-- the row tells how the transfer ended, and what was durable as the seat saw it last; that is at or above the end where it was waited for
pub record IsRowOf (number : ℕ) (ended : TransferEnd) (wait : Bool) (view : View) (row : Row) : Type 0 where
  pub row_is : row ≡ record { txn = number; answer = ended.answer; end = ended.end; seen = view.seen.durable }
  pub waited : wait ≡ true → ended.end ≤ row.seen

-- The seat had taken the job at `old`. From whichever view it took it, it has run the transfer since, or was cut off.
abbrev pub HasRunTaken : ℕ → Job → Bool → View → View → Row → Type 0
HasRunTaken number job wait old new row = (first : View) → HasTakenJob number job first old → HasRun number job wait row first new

abbrev pub HasCutTaken : ℕ → Job → Bool → View → View → Cause → Type 0
HasCutTaken number job wait old new cause = (first : View) → HasTakenJob number job first old → HasCut number job wait cause first new

-- and so it made the transfer, as far as it came, and let its accounts go
pub record MakesTaken (number : ℕ) (job : Job) (wait : Bool) (result : Result Row Cause) (old new : Seat) : Type 0 where
  pub let_go : LetsGo old new
  pub run : IfOk result (HasRunTaken number job wait (view_of old) (view_of new))
  pub cut : IfErr result (HasCutTaken number job wait (view_of old) (view_of new))

-- it was cut off, whether it was to wait or not
abbrev pub IsCutEarly : ℕ → Job → View → View → Cause → Type 0
IsCutEarly number job old new cause = (wait : Bool) → HasCutTaken number job wait old new cause
