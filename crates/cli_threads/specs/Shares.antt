-- What the workers of a run came to, as the flusher's view shows it once it took in all their seats. Worker w's share stands at place w.
use Rattle.std.specs.Prelude.{◌≡◌, ◌≢◌, ℕ, ◌+◌, ◌<◌, ◌≤◌, false, List, [], ◌∷◌, ◌++◌, length, map, Contains}
use Rattle.std.specs.List.{AllByRecursion}
use mathlib.Core.Option.{some}
use lib.ListN.{get_elem?}
use Rattle.lsn_space.specs.declared.lsn.TheConstants.{LAST}
use Rattle.log_record.specs.declared.rec.Rec.{Rec}
use Rattle.log_record.specs.LogList.{size_of}
use Rattle.lock_core.specs.Alone.{planned_records}
use Rattle.log_rule.specs.declared.view.Entry.{Entry}
use Rattle.log_rule.specs.declared.view.Given.{Given}
use Rattle.log_rule.specs.declared.view.TakenJob.{TakenJob}
use Rattle.log_rule.specs.declared.view.View.{View}
use Rattle.lock_core.specs.Transfers.{transfer_of}
use Rattle.txn_jobs.specs.declared.cause.Cause.{Cause}
use Rattle.txn_jobs.specs.declared.cause.Cause.TheVariants.{Stop, LogEnd}
use Rattle.txn_jobs.specs.declared.cause.Worked.{Worked}
use Rattle.txn_jobs.specs.declared.cause.Worked.TheVariants.{All, Cut}
use Rattle.txn_runner.specs.Places.{NumberedJobs, number_at, job_at, jobs_taken, AreOfScript}
use Rattle.txn_runner.specs.Running.{IsTotalOfSeat}
use Rattle.txn_runner.specs.Working.{LieInTurn, HaveEnded, own_records}
use Rattle.cli_threads.specs.Sharing.{Sharing, IsSharedOut}

-- the places of the script that a worker took, and how it ended
pub record Share : Type 0 where
  pub taken : List ℕ
  pub worked : Worked

-- the transfers that these workers took
abbrev pub all_taken : NumberedJobs → List Share → List TakenJob
all_taken jobs [] = []
all_taken jobs (share ∷ shares) = jobs_taken jobs share.taken ++ all_taken jobs shares

-- under this number the account was given back uncommitted, with this balance as it was taken, where the seat had seen tail there
pub record IsGivenUncommitted (number tail balance : ℕ) (given : List Given) (account : ℕ) : Type 0 where
  pub back : Given
  pub contains : Contains given back
  pub txn : back.txn ≡ number
  pub account_is : back.account ≡ account
  pub uncommitted : back.committed ≡ false
  pub tail_is : back.tail ≡ tail
  pub balance_is : back.balance ≡ balance

-- and so was each of the leg, with these balances
abbrev pub AreGivenUncommitted : ℕ → ℕ → (ℕ → ℕ) → List Given → ℕ × ℕ × ℕ → Type 0
AreGivenUncommitted number tail balances given leg =
    IsGivenUncommitted number tail (balances leg.0) given leg.0 × IsGivenUncommitted number tail (balances leg.1) given leg.1

-- For the next record of the transfer at this place so many units were asked for, its own or those of a group, and they do not fit
-- between this tail, which a worker saw, and the last LSN. By the balances with which its accounts were taken, and given back at that
-- tail, uncommitted, it is that record.
pub record EndsLogAt (jobs : NumberedJobs) (workers place tail total : ℕ) (view : View) : Type 0 where
  pub balances : ℕ → ℕ
  pub last_commits : ℕ → ℕ
  pub gave : AllByRecursion (AreGivenUncommitted (number_at jobs place) tail balances view.books.given) (job_at jobs place).legs
  pub next : Rec
  pub rest : List Rec
  pub plan : own_records (number_at jobs place) view.entries ++ next ∷ rest
      ≡ planned_records (number_at jobs place) (transfer_of (job_at jobs place)) last_commits balances
  pub asked : IsTotalOfSeat view (size_of next) total
  pub too_long : LAST < tail + total
  pub seen : Contains view.seen.lsns tail
  pub alone : workers ≡ 1 → AllByRecursion (λ (entry : Entry). entry.start + entry.size ≤ tail) view.entries

-- why the transfer at this place was cut off; a stop word is the one that the flusher's seat stored
abbrev pub WasCutBy : NumberedJobs → ℕ → ℕ → Cause → View → Type 0
WasCutBy jobs workers place (Stop word) view = (word ≢ 0) × (view.sending.stop ≡ word)
WasCutBy jobs workers place (LogEnd tail total) view = EndsLogAt jobs workers place tail total view

-- the worker made each transfer that it took, or was cut off in the one that it took last
abbrev pub CameTo : NumberedJobs → ℕ → List ℕ → Worked → View → Type 0
CameTo jobs workers taken All view = HaveEnded jobs taken view
CameTo jobs workers taken (Cut cause) view =
    (made : List ℕ) × (place : ℕ) × (taken ≡ made ++ place ∷ []) × HaveEnded jobs made view × WasCutBy jobs workers place cause view

-- one of so many workers took the transfers at these places of the script and came to this, and their entries lie in the order of
-- the places
pub record HasShare (jobs : NumberedJobs) (workers : ℕ) (share : Share) (view : View) : Type 0 where
  pub places : AreOfScript jobs share.taken
  pub came_to : CameTo jobs workers share.taken share.worked view
  pub in_turn : LieInTurn jobs share.taken view.entries

-- how the script was shared out, by the shares of the workers
abbrev pub sharing_of : ℕ → List Share → Sharing
sharing_of front shares = record { front = front; taken = map (λ (share : Share). share.taken) shares }

-- The flusher's seat took in all workers' seats, and these are their shares: together a prefix of the script, and all of it where a
-- worker was not cut off.
pub record HasGathered (jobs : NumberedJobs) (front : ℕ) (shares : List Share) (view : View) : Type 0 where
  pub someone : 1 ≤ length shares
  pub taken : view.books.jobs ≡ all_taken jobs shares
  pub each : (worker : ℕ) (share : Share) → get_elem? shares worker ≡ some share → HasShare jobs (length shares) share view
  pub sharing : IsSharedOut (length shares) jobs (sharing_of front shares)
  pub all : (worker : ℕ) (share : Share) → get_elem? shares worker ≡ some share → share.worked ≡ All → front ≡ length jobs.script
