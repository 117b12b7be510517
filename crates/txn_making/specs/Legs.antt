-- The legs of a transfer, one after another.
use Rattle.std.specs.Prelude.{◌≡◌, ℕ, ◌+◌, ◌≤◌, true, false, pos, neg_ℤ, List, [], ◌∷◌, ◌++◌, map, take, drop, All}
use Rattle.log_record.specs.declared.rec.Rec.{Rec}
use Rattle.log_record.specs.declared.rec.Rec.TheVariants.{Update}
use Rattle.log_record.specs.Spelling.{IsTxn, IsSpellable}
use Rattle.lock_core.specs.declared.update.Change.{Change}
use Rattle.lock_core.specs.Alone.{outcome_from, outcome_alone, planned_from, end_record, IsAllowedLeg}
use Rattle.lock_core.specs.Records.{gain, loss}
use Rattle.lock_core.specs.Sums.{moved}
use Rattle.lock_core.specs.Transactions.{recs_of, changes_in, has_commit, touches}
use Rattle.lock_core.specs.declared.job.Job.{Job}
use Rattle.early_locks.specs.Locks.{HoldsTaken}
use Rattle.log_table.specs.declared.table.Seat.{Seat}
use Rattle.log_table.specs.Seats.{view_of}
use Rattle.log_rule.specs.declared.view.Books.{Books}
use Rattle.log_rule.specs.declared.view.Entry.{Entry}
use Rattle.log_rule.specs.declared.view.View.{View}
use Rattle.log_rule.specs.Accounts.{MayBeTaken}
use Rattle.log_rule.specs.Books.{balance_taken, last_commit_taken, HoldsAccounts}
use Rattle.lock_core.specs.Transfers.{transfer_of}
use Rattle.log_rule.specs.ClosedLog.{records_of}
use Rattle.txn_parts.specs.declared.taken_account.TakenAccount.{TakenAccount}
pub use Rattle.txn_parts.specs.Leg.{HasBalance, IsRefused, CanMake, CanBear, IsAfter}
use Rattle.txn_jobs.specs.declared.rows.Answer.{Answer}
use Rattle.txn_jobs.specs.declared.rows.Answer.TheVariants.{Done}
use Rattle.txn_jobs.specs.Accounts.{HasAccountsOf, IsAccountOf}
use Rattle.txn_making.specs.Holdings.{account_of, IsUnchanged}
use Rattle.txn_making.specs.Inserts.{Adds, IsLeft}
use Rattle.txn_jobs.specs.Rows.{outcome_of}

-- these accounts are held with these values
abbrev pub AreHeld : List TakenAccount → Books → Type 0
AreHeld holdings books = All (λ (holding : TakenAccount). HoldsTaken holding.taken books) holdings

-- what the records of the seat's last job change so far
abbrev pub changes_by : Books → List Change
changes_by books = changes_in (recs_of books.placed)

-- The seat's last job is this one under this number, which a table of so many accounts allows; these are its accounts, and are held.
pub record HoldsJob (accounts number : ℕ) (job : Job) (holdings : List TakenAccount) (books : Books) : Type 0 where
  pub last : books.last ≡ record { number = number; job = job }
  pub allowed : MayBeTaken accounts (record { number = number; job = job })
  pub all : All (HasAccountsOf (map account_of holdings)) job.legs
  pub only : All (IsAccountOf job.legs) (map account_of holdings)
  pub taken : AreHeld holdings books

-- The seat's last job is this one: its accounts are held as they were taken, nothing of it is in the log, and that had not stopped when
-- it was seen last.
pub record MayInsertTransfer (accounts number : ℕ) (job : Job) (holdings : List TakenAccount) (view : View) : Type 0 where
  pub holds : HoldsJob accounts number job holdings view.books
  pub unchanged : All IsUnchanged holdings
  pub begins : view.books.placed ≡ []
  pub runs : view.seen.stop ≡ 0

-- the Updates of a leg's two accounts, each with the last Commit as it was taken
abbrev pub leg_records : ℕ → (ℕ → ℕ) → ℕ × ℕ × ℕ → List Rec
leg_records number last_commit leg = Update number leg.0 (neg_ℤ (pos leg.2)) (last_commit leg.0) ∷ Update number leg.1 (pos leg.2) (last_commit leg.1) ∷ []

-- the seat inserted these records
pub record AddsRecords (records : List Rec) (old new : Seat) : Type 0 where
  pub added : List Entry
  pub adds : Adds added old new
  pub records_are : records_of added ≡ records

-- the seat inserted these of the leg, with the last commits as its accounts were taken
abbrev pub AddsLeg : ℕ → ℕ × ℕ × ℕ → Seat → Seat → Type 0
AddsLeg number leg old new = AddsRecords (leg_records number (last_commit_taken (view_of old).books.held) leg) old new

-- The leg may be made: its accounts are among these holdings, of which each is held, and its Updates come next.
pub record MayMakeLeg (accounts number : ℕ) (leg : ℕ × ℕ × ℕ) (holdings : List TakenAccount) (books : Books) : Type 0 where
  pub some_job : 1 ≤ books.last.number
  pub holds : HoldsAccounts books
  pub txn : IsTxn number
  pub leg_allowed : IsAllowedLeg accounts leg
  pub both : HasAccountsOf (map account_of holdings) leg
  pub taken : AreHeld holdings books
  pub uncommitted : has_commit (recs_of books.placed) ≡ false
  pub rest : List Rec
  pub left : IsLeft (leg_records number (last_commit_taken books.held) leg ++ rest) books

-- both accounts of the leg are changed
abbrev pub TouchesLeg : List Change → ℕ × ℕ × ℕ → Type 0
TouchesLeg changes leg = (touches leg.0 changes ≡ true) × (touches leg.1 changes ≡ true)

-- The transfer stands before its i-th leg, from 0. What is left of it, and its outcome, are those of the legs from there on, run alone on
-- balances that the holdings have by now. These are the balances as taken with what the records so far change, and each account of the
-- legs before is changed.
pub record StandsBefore (i number : ℕ) (job : Job) (holdings : List TakenAccount) (books : Books) : Type 0 where
  pub balances : ℕ → ℕ
  pub left : IsLeft (planned_from number (last_commit_taken books.held) balances i (drop i job.legs)) books
  pub outcome : outcome_alone (transfer_of job) (balance_taken books.held) ≡ outcome_from i (drop i job.legs) balances
  pub now : All (λ (holding : TakenAccount). holding.balance ≡ balances holding.taken.account) holdings
  pub sums : (account : ℕ) → balances account + moved loss account (changes_by books)
      ≡ balance_taken books.held account + moved gain account (changes_by books)
  pub touched : All (TouchesLeg (changes_by books)) (take i job.legs)
  pub uncommitted : has_commit (recs_of books.placed) ≡ false

-- the holding's balance is the one as taken with what the records change, and they do change the account
pub record HasChanged (books : Books) (holding : TakenAccount) : Type 0 where
  pub sum : holding.balance + moved loss holding.taken.account (changes_by books)
      ≡ holding.taken.balance + moved gain holding.taken.account (changes_by books)
  pub touched : touches holding.taken.account (changes_by books) ≡ true

-- the end record of a transfer with this answer
abbrev pub last_record : ℕ → Job → Answer → Rec
last_record number job answer = end_record number (transfer_of job) (outcome_of answer)

-- Only the end record is left, which is that of the answer. The answer is the outcome of the transfer run alone on the balances as taken.
pub record ReachesEnd (answer : Answer) (number : ℕ) (job : Job) (holdings : List TakenAccount) (books : Books) : Type 0 where
  pub left : IsLeft (last_record number job answer ∷ []) books
  pub spellable : IsSpellable (last_record number job answer)
  pub outcome : outcome_of answer ≡ outcome_alone (transfer_of job) (balance_taken books.held)
  pub moved : answer ≡ Done → All (HasChanged books) holdings
  pub uncommitted : has_commit (recs_of books.placed) ≡ false
