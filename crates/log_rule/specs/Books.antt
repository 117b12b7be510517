-- The jobs that a seat took, the accounts that it holds, and the records that it has to place.
use Rattle.std.specs.Prelude.{◌≡◌, ◌==◌, ℕ, ◌+◌, ◌≤◌, if◌then◌else◌, ◌⊎◌, None, List, [], ◌∷◌, ◌++◌, length, get_or}
use Rattle.std.specs.List.{AllByRecursion}
use Rattle.log_record.specs.declared.rec.Rec.{Rec}
use Rattle.log_record.specs.declared.rec.Rec.TheVariants.{Genesis, Update, Commit, Short, Over, Note}
use Rattle.lock_core.specs.Transfers.{transfer_of}
use Rattle.lock_core.specs.Alone.{planned_records}
use Rattle.lock_core.specs.Serial.{NumberedTransfer}
use Rattle.lock_core.specs.Transactions.{recs_of, in_order}
use Rattle.log_rule.specs.declared.view.TakenJob.{TakenJob}
use Rattle.log_rule.specs.declared.view.Taken.{Taken}
use Rattle.log_rule.specs.declared.view.Half.{Half}
use Rattle.log_rule.specs.declared.view.Half.TheVariants.{Neither, Taking, Giving}
use Rattle.log_rule.specs.declared.view.Given.{Given}
use Rattle.log_rule.specs.declared.view.Books.{Books}

-- a job that was taken, as a transfer under its number
abbrev pub task_of : TakenJob → NumberedTransfer
task_of taken = record { number = taken.number; job = transfer_of taken.job }

abbrev pub no_job : TakenJob
no_job = record { number = 0; job = record { legs = []; note = None } }

-- no job was taken, and no account is held, half held or was given back
abbrev pub no_books : Books
no_books = record { jobs = []; last = no_job; placed = []; held = []; half = Neither; given = [] }

-- how often a list of held accounts has this one
abbrev pub times_held : ℕ → List Taken → ℕ
times_held account [] = 0
times_held account (held ∷ more) = (if held.account == account then 1 else 0) + times_held account more

-- whether this is the account that is half taken or half given back, as a number
abbrev pub times_half : ℕ → Half → ℕ
times_half account Neither = 0
times_half account (Taking half last_commit) = if half == account then 1 else 0
times_half account (Giving taken balance) = if taken.account == account then 1 else 0

-- how often a seat holds the account, with the one that it half holds
abbrev pub times_holding : ℕ → Books → ℕ
times_holding account books = times_half account books.half + times_held account books.held

-- how often a list of jobs has this number
abbrev pub times_taken : ℕ → List TakenJob → ℕ
times_taken number [] = 0
times_taken number (taken ∷ more) = (if taken.number == number then 1 else 0) + times_taken number more

-- the balance of an account as it was taken, 0 where it is not held
abbrev pub balance_taken : List Taken → ℕ → ℕ
balance_taken [] account = 0
balance_taken (held ∷ more) account = if held.account == account then held.balance else balance_taken more account

-- the end of its last Commit as it was taken
abbrev pub last_commit_taken : List Taken → ℕ → ℕ
last_commit_taken [] account = 0
last_commit_taken (held ∷ more) account = if held.account == account then held.last_commit else last_commit_taken more account

-- all records of the seat's last job, run alone on the balances and last Commits as they were taken
abbrev pub plan_of : Books → List Rec
plan_of books = planned_records books.last.number (transfer_of books.last.job) (last_commit_taken books.held) (balance_taken books.held)

-- the record behind as many of them as the log has
abbrev pub next_of : Books → Rec
next_of books = get_or (plan_of books) (length books.placed) (Note 0 [])

-- the record comes next: before it the plan has those of the job that are in the log
pub record IsNext (rec : Rec) (books : Books) : Type 0 where
  pub rest : List Rec
  pub plan : in_order (recs_of books.placed) (rec ∷ rest) ≡ plan_of books

-- the accounts of the leg are held
abbrev pub HoldsLeg : List Taken → ℕ × ℕ × ℕ → Type 0
HoldsLeg held leg = (1 ≤ times_held leg.0 held) × (1 ≤ times_held leg.1 held)

-- all accounts of the seat's last job are held
abbrev pub HoldsAccounts : Books → Type 0
HoldsAccounts books = AllByRecursion (HoldsLeg books.held) books.last.job.legs

abbrev pub IsNote : Rec → Type 0
IsNote (Note txn text) = Unit {0}
IsNote (Genesis account balance) = ⊥
IsNote (Update txn account delta prev) = ⊥
IsNote (Commit txn legs) = ⊥
IsNote (Short txn leg) = ⊥
IsNote (Over txn leg) = ⊥

-- the record may be placed: it is the next of the seat's last job, no account is half held, and for all but a Note the job's accounts are held
pub record MayEnter (rec : Rec) (books : Books) : Type 0 where
  pub whole : books.half ≡ Neither
  pub some_job : 1 ≤ books.last.number
  pub next : IsNext rec books
  pub accounts : IsNote rec ⊎ HoldsAccounts books

-- the record is in the log, and ends here
abbrev pub placing : ℕ → Rec → Books → Books
placing end rec books = record books { placed = record { end = end; rec = rec } ∷ books.placed }

-- the job is taken
abbrev pub taking_job : TakenJob → Books → Books
taking_job taken books = record books { jobs = taken ∷ books.jobs; last = taken; placed = [] }

-- the account's word is taken
abbrev pub half_taking : ℕ → ℕ → Books → Books
half_taking account last_commit books = record books { half = Taking account last_commit }

-- the account is taken
abbrev pub taking : Taken → Books → Books
taking held books = record books { held = held ∷ books.held; half = Neither }

-- the list without the account
abbrev pub without : ℕ → List Taken → List Taken
without account [] = []
without account (held ∷ more) = if held.account == account then more else held ∷ without account more

-- the balance is stored with which the account goes back that is held so
abbrev pub half_giving : Taken → ℕ → Books → Books
half_giving taken balance books = record books { held = without taken.account books.held; half = Giving taken balance }

-- the account is given back
abbrev pub giving : Given → Books → Books
giving given books = record books { half = Neither; given = given ∷ books.given }

-- the jobs of both, and the accounts that both gave back
abbrev pub merging : Books → Books → Books
merging books other = record books { jobs = books.jobs ++ other.jobs; given = books.given ++ other.given }
