-- What a seat has done of one transfer. `old` and `new` are its view before and after.
use Rattle.std.specs.Prelude.{◌≡◌, ◌≢◌, ℕ, ◌+◌, ◌<◌, ◌≤◌, true, false, Bool, List, [], ◌∷◌, ◌++◌, map, All, Contains}
use Rattle.lsn_space.specs.declared.lsn.TheConstants.{LAST}
use Rattle.log_record.specs.declared.rec.Rec.{Rec}
use Rattle.log_record.specs.LogList.{size_of}
use Rattle.lock_core.specs.Alone.{outcome_alone, end_record, planned_records}
use Rattle.lock_core.specs.declared.job.Job.{Job}
use Rattle.log_rule.specs.declared.view.Entry.{Entry}
use Rattle.log_rule.specs.declared.view.Given.{Given}
use Rattle.log_rule.specs.declared.view.View.{View}
use Rattle.lock_core.specs.Transfers.{transfer_of}
use Rattle.log_rule.specs.ClosedLog.{records_of}
use Rattle.txn_jobs.specs.declared.cause.Cause.{Cause}
use Rattle.txn_jobs.specs.declared.cause.Cause.TheVariants.{Stop, LogEnd}
use Rattle.txn_jobs.specs.declared.rows.Row.{Row}
pub use Rattle.ring_buffer.specs.Totals.{IsTotalFor, IsTotalOfSeat, IsHeard, IsOfGroup}
pub use Rattle.txn_jobs.specs.Rows.{outcome_of}
pub use Rattle.txn_making.specs.Inserts.{LieInOrder}
pub use Rattle.txn_making.specs.Holdings.{account_given}
use Rattle.txn_jobs.specs.Accounts.{HasAccountsOf}

-- The seat took the transfer under this number, and inserted its records but for the rest, each behind the tail as it had seen it: those of
-- the transfer run alone on some balances and last Commits.
pub record HasInserted (number : ℕ) (job : Job) (rest : List Rec) (old new : View) : Type 0 where
  pub balances : ℕ → ℕ
  pub last_commits : ℕ → ℕ
  pub added : List Entry
  pub entries : new.entries ≡ old.entries ++ added
  pub within : LieInOrder old.seen.tail new.seen.tail added
  pub plan : records_of added ++ rest ≡ planned_records number (transfer_of job) last_commits balances
  pub jobs : new.books.jobs ≡ record { number = number; job = job } ∷ old.books.jobs

-- The seat gave each account of this job back behind those that it gave back before, each under this number, and with this balance as it
-- was taken.
pub record GaveBack (number : ℕ) (job : Job) (balances : ℕ → ℕ) (before : List Given) (view : View) : Type 0 where
  pub back : List Given
  pub given_are : view.books.given ≡ back ++ before
  pub own : All (λ (given : Given). given.txn ≡ number) back
  pub taken_as : All (λ (given : Given). balances given.account ≡ given.balance) back
  pub each : All (HasAccountsOf (map account_given back)) job.legs

-- All its records were inserted, and the row tells how it ended, where its end record ends, and the durable LSN that the seat saw last,
-- which is at or above that where the seat waited. Then the seat gave each account of it back, where it saw durable at that very LSN, and
-- it ran the transfer on the balances as they were taken.
pub record HasRun (number : ℕ) (job : Job) (wait : Bool) (row : Row) (old new : View) : Type 0 where
  pub inserted : HasInserted number job [] old new
  pub txn : row.txn ≡ number
  pub outcome : outcome_of row.answer ≡ outcome_alone (transfer_of job) inserted.balances
  pub before : List Entry
  pub end : Entry
  pub last : inserted.added ≡ before ++ end ∷ []
  pub rec : end.rec ≡ end_record number (transfer_of job) (outcome_of row.answer)
  pub end_is : row.end ≡ end.start + end.size
  pub above : old.seen.tail < row.end
  pub seen : row.seen ≡ new.seen.durable
  pub waited : wait ≡ true → row.end ≤ row.seen
  pub given : GaveBack number job inserted.balances old.books.given new
  pub at_seen : All (λ (one : Given). one.durable ≡ row.seen) given.back

-- the log had no Commit of the seat's job as the account went back, and the seat had seen tail there
abbrev pub IsUncommittedAt : ℕ → Given → Type 0
IsUncommittedAt tail given = (given.committed ≡ false) × (given.tail ≡ tail)

-- Why the transfer was cut off: the seat read a stop word that isn't 0, where records are left or the worker waits; or for its next record
-- so many units were asked for, its own or those of a group, and by the tail as the seat saw it last they do not fit in the log; each
-- account went back then, uncommitted, at that tail, so that its balance as it was taken tells which record that is.
abbrev pub HasCut : ℕ → Job → Bool → Cause → View → View → Type 0
HasCut number job wait (Stop word) old new =
    (rest : List Rec) × HasInserted number job rest old new × (rest ≡ [] → wait ≡ true) × (word ≢ 0) × (new.seen.stop ≡ word)
HasCut number job wait (LogEnd tail total) old new =
    (next : Rec) × (rest : List Rec) × (inserted : HasInserted number job (next ∷ rest) old new)
    × (gave : GaveBack number job inserted.balances old.books.given new) × All (IsUncommittedAt tail) gave.back
    × IsTotalOfSeat new (size_of next) total × (LAST < tail + total) × (tail ≡ new.seen.tail) × Contains new.seen.lsns tail
