-- What a worker has done. `taken` are the places of the script that it took, in this order; `old` and `new` are its seat's view before and
-- after.
use Rattle.std.specs.Prelude.{◌≡◌, ◌≢◌, ◌⊎◌, ℕ, ◌+◌, ◌<◌, ◌≤◌, ◌==◌, true, Bool, List, [], ◌∷◌, ◌++◌, length, filter, Contains}
use Rattle.std.specs.List.{AllByRecursion}
use Rattle.lsn_space.specs.declared.lsn.TheConstants.{LAST}
use Rattle.log_record.specs.declared.rec.Rec.{Rec}
use Rattle.log_record.specs.LogList.{size_of}
use Rattle.lock_core.specs.Records.{txn_of, ends}
use Rattle.lock_core.specs.Alone.{planned_records, end_record}
use Rattle.log_rule.specs.declared.view.Entry.{Entry}
use Rattle.log_rule.specs.declared.view.Given.{Given}
use Rattle.log_rule.specs.declared.view.TakenJob.{TakenJob}
use Rattle.log_rule.specs.declared.view.View.{View}
use Rattle.lock_core.specs.Transfers.{transfer_of}
use Rattle.log_rule.specs.ClosedLog.{records_of}
use Rattle.txn_jobs.specs.declared.cause.Cause.{Cause}
use Rattle.txn_jobs.specs.declared.cause.Cause.TheVariants.{Stop, LogEnd}
use Rattle.txn_jobs.specs.declared.cause.Worked.{Worked}
use Rattle.txn_jobs.specs.declared.cause.Worked.TheVariants.{All, Cut}
use Rattle.txn_jobs.specs.declared.rows.Row.{Row}
use Rattle.job_queue.specs.declared.rows.Rows.{Rows}
use Rattle.job_queue.specs.declared.queue.Queue.{Queue}
use Rattle.job_queue.specs.Passes.{HasPassOf}
use Rattle.txn_making.specs.Holdings.{KeepsGiven}
pub use Rattle.job_queue.specs.Passes.{jobs_of, rows_in, room_of, places_in, marks_in}
use Rattle.txn_runner.specs.Running.{outcome_of, LieInOrder, GaveBack, IsTotalOfSeat, IsUncommittedAt}
use Rattle.txn_runner.specs.Places.{NumberedJobs, number_at, job_at, jobs_taken, IsOneOf, Rises, AreOfScript}

-- there is room for a row of each place that is left
abbrev pub HasRoomForRows : NumberedJobs → Rows → Type 0
HasRoomForRows jobs rows = length (rows_in rows) + length jobs.script ≤ room_of rows + length (places_in rows)

-- a worker that was not cut off took its mark, and so no place is left; one that was may take its mark yet
abbrev pub EndsByMark : Worked → Rows → Type 0
EndsByMark All rows = 1 ≤ length (marks_in rows)
EndsByMark (Cut cause) rows = marks_in rows ≡ []

-- among the entries each of a transfer at one of these places ends at or below the start of each of one at a later place
abbrev pub LieInTurn : NumberedJobs → List ℕ → List Entry → Type 0
LieInTurn jobs taken entries = (i j : ℕ) (before after : Entry) → i < j → Contains taken i → Contains taken j → Contains entries before
    → Contains entries after → txn_of before.rec ≡ number_at jobs i → txn_of after.rec ≡ number_at jobs j
    → before.start + before.size ≤ after.start

-- The seat took the transfers at these places of the script, which rise, after others with numbers below the first. Its records are of
-- these or have a number below the first; they lie one behind another below the tail as it saw it last, in the order of the places.
pub record HasWorked (jobs : NumberedJobs) (taken : List ℕ) (view : View) : Type 0 where
  pub places : AreOfScript jobs taken
  pub rising : Rises taken
  pub earlier : List TakenJob
  pub jobs_are : view.books.jobs ≡ jobs_taken jobs taken ++ earlier
  pub numbers : AllByRecursion (λ (job : TakenJob). job.number < jobs.first) earlier
  pub own : AllByRecursion (λ (entry : Entry). (txn_of entry.rec < jobs.first) ⊎ IsOneOf jobs taken (txn_of entry.rec)) view.entries
  pub below : LieInOrder 0 view.seen.tail view.entries
  pub in_turn : LieInTurn jobs taken view.entries

-- the entries of before stay, and others follow them
pub record KeepsEntries (old new : View) : Type 0 where
  pub added : List Entry
  pub entries : new.entries ≡ old.entries ++ added

-- from the places `before` to `after`: the seat took the transfers at just those that were added, behind the jobs that it had
pub record TakesJobs (jobs : NumberedJobs) (before after : List ℕ) (old new : View) : Type 0 where
  pub taken : List ℕ
  pub places : after ≡ before ++ taken
  pub jobs_are : new.books.jobs ≡ jobs_taken jobs taken ++ old.books.jobs

-- there is an end record of this number among the entries
pub record HasEnd (number : ℕ) (entries : List Entry) : Type 0 where
  pub end : Entry
  pub contains : Contains entries end
  pub number_is : txn_of end.rec ≡ number
  pub is_end : ends end.rec ≡ true

-- the transfer at each of these places has its end record
abbrev pub HaveEnded : NumberedJobs → List ℕ → View → Type 0
HaveEnded jobs places view = AllByRecursion (λ place. HasEnd (number_at jobs place) view.entries) places

-- the records of one number among the entries, in order
abbrev pub own_records : ℕ → List Entry → List Rec
own_records number entries = filter (λ rec. txn_of rec == number) (records_of entries)

-- For the transfer's next record, by the balances as its accounts were taken, so many units were asked for, its own or those of a group,
-- and they do not fit between this tail, which the seat saw last, and the last LSN. The accounts all went back under its number,
-- uncommitted, where the seat had seen tail there.
pub record EndsLog (jobs : NumberedJobs) (place tail total : ℕ) (view : View) : Type 0 where
  pub balances : ℕ → ℕ
  pub last_commits : ℕ → ℕ
  pub before : List Given
  pub given : GaveBack (number_at jobs place) (job_at jobs place) balances before view
  pub uncommitted : AllByRecursion (IsUncommittedAt tail) given.back
  pub next : Rec
  pub rest : List Rec
  pub plan : own_records (number_at jobs place) view.entries ++ next ∷ rest
      ≡ planned_records (number_at jobs place) (transfer_of (job_at jobs place)) last_commits balances
  pub asked : IsTotalOfSeat view (size_of next) total
  pub too_long : LAST < tail + total
  pub tail_is : tail ≡ view.seen.tail
  pub seen : Contains view.seen.lsns tail

-- why the transfer at this place was cut off; at a stop it has its end record only where the worker waits
abbrev pub IsCutBy : NumberedJobs → ℕ → Bool → Cause → View → Type 0
IsCutBy jobs place wait (Stop word) view =
    (HasEnd (number_at jobs place) view.entries → wait ≡ true) × (word ≢ 0) × (view.seen.stop ≡ word)
IsCutBy jobs place wait (LogEnd tail total) view = EndsLog jobs place tail total view

-- from the places `before` to `after`: each transfer at those that were added ended, or the last one was cut off
abbrev pub Works : NumberedJobs → List ℕ → List ℕ → Bool → Worked → View → Type 0
Works jobs before after wait All view = (made : List ℕ) × (after ≡ before ++ made) × HaveEnded jobs made view
Works jobs before after wait (Cut cause) view =
    (made : List ℕ) × (place : ℕ) × (after ≡ before ++ (made ++ place ∷ [])) × HaveEnded jobs made view × IsCutBy jobs place wait cause view

-- under this number the account was given back where durable was seen at this LSN
pub record IsGivenAt (number durable : ℕ) (given : List Given) (account : ℕ) : Type 0 where
  pub back : Given
  pub contains : Contains given back
  pub txn : back.txn ≡ number
  pub account_is : back.account ≡ account
  pub durable_is : back.durable ≡ durable

-- and so was each of the leg
abbrev pub AreGivenAt : ℕ → ℕ → List Given → ℕ × ℕ × ℕ → Type 0
AreGivenAt number durable given leg = IsGivenAt number durable given leg.0 × IsGivenAt number durable given leg.1

-- The row tells of the transfer at this place how it ended, by its end record among the entries, and the durable LSN that the seat had seen
-- when it gave back each account of that transfer, under its number; the one that the seat saw last is at or above it.
pub record TellsEnd (jobs : NumberedJobs) (place : ℕ) (wait : Bool) (view : View) (row : Row) : Type 0 where
  pub txn : row.txn ≡ number_at jobs place
  pub end : Entry
  pub contains : Contains view.entries end
  pub rec : end.rec ≡ end_record row.txn (transfer_of (job_at jobs place)) (outcome_of row.answer)
  pub end_is : row.end ≡ end.start + end.size
  pub seen : row.seen ≤ view.seen.durable
  pub waited : wait ≡ true → row.end ≤ row.seen
  pub gave : AllByRecursion (AreGivenAt row.txn row.seen view.books.given) (job_at jobs place).legs

-- rows of the transfers at the first of these places, each with an end above the one before, and a durable LSN not below the one before;
-- the first with an end above `above`, and one not below `since`
abbrev pub AreRowsOf : NumberedJobs → List ℕ → Bool → View → ℕ → ℕ → List Row → Type 0
AreRowsOf jobs [] wait view above since rows = rows ≡ []
AreRowsOf jobs (place ∷ places) wait view above since [] = Unit {0}
AreRowsOf jobs (place ∷ places) wait view above since (row ∷ rows) =
    TellsEnd jobs place wait view row × (above < row.end) × (since ≤ row.seen) × AreRowsOf jobs places wait view row.end row.seen rows

-- a row for each transfer taken, but none for one that was cut off
abbrev pub EachHasRow : List ℕ → Worked → List Row → Type 0
EachHasRow taken All added = length added ≡ length taken
EachHasRow taken (Cut cause) added = length added + 1 ≡ length taken

-- from the places `before` to `after`: rows were added behind those before; there is as much room as before
pub record AddsRows (jobs : NumberedJobs) (before after : List ℕ) (wait : Bool) (worked : Worked) (rows_old rows_new : Rows)
    (old new : View) : Type 0 where
  pub taken : List ℕ
  pub places : after ≡ before ++ taken
  pub added : List Row
  pub rows : rows_in rows_new ≡ rows_in rows_old ++ added
  pub room : room_of rows_new ≡ room_of rows_old
  pub tell : AreRowsOf jobs taken wait new old.seen.tail old.seen.durable added
  pub each : EachHasRow taken worked added

-- What the work of a worker comes to, by its rows before and after.
pub record HasDone (queue : Queue) (wait : Bool) (result : Worked) (rows_old rows_new : Rows) (old new : View) : Type 0 where
  pub none_held : new.books.held ≡ []
  pub pass : HasPassOf queue rows_new
  pub worked : HasWorked (jobs_of queue) (places_in rows_new) new
  pub kept : KeepsEntries old new
  pub given : KeepsGiven old new
  pub jobs : TakesJobs (jobs_of queue) (places_in rows_old) (places_in rows_new) old new
  pub works : Works (jobs_of queue) (places_in rows_old) (places_in rows_new) wait result new
  pub all : EndsByMark result rows_new
  pub rows : AddsRows (jobs_of queue) (places_in rows_old) (places_in rows_new) wait result rows_old rows_new old new
