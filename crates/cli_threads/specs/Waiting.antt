-- What a worker that waits kept: the accounts of a transfer, until it saw that the transfer's end was durable.
use Rattle.std.specs.Prelude.{◌≡◌, ℕ, ◌+◌, ◌-◌, ◌≤◌, true, List, length, take, Contains}
use Rattle.std.specs.List.{AllByRecursion}
use Rattle.lock_core.specs.Records.{txn_of, ends}
use Rattle.log_rule.specs.declared.view.Entry.{Entry}
use Rattle.log_rule.specs.declared.view.Given.{Given}
use Rattle.txn_jobs.specs.declared.cause.Worked.{Worked}
use Rattle.txn_jobs.specs.declared.cause.Worked.TheVariants.{All, Cut}
use Rattle.txn_jobs.specs.Places.{NumberedJobs, number_at, job_at}

-- under this number the account was given back where durable was seen at this LSN or above it
pub record IsGivenFrom (number least : ℕ) (given : List Given) (account : ℕ) : Type 0 where
  pub back : Given
  pub contains : Contains given back
  pub txn : back.txn ≡ number
  pub account_is : back.account ≡ account
  pub durable : least ≤ back.durable

-- and so was each of the leg
abbrev pub AreGivenFrom : ℕ → ℕ → List Given → ℕ × ℕ × ℕ → Type 0
AreGivenFrom number least given leg = IsGivenFrom number least given leg.0 × IsGivenFrom number least given leg.1

-- the transfer at this place has its end record among the entries, and each of its accounts went back once that record was seen to be
-- durable
pub record HasWaited (jobs : NumberedJobs) (place : ℕ) (entries : List Entry) (given : List Given) : Type 0 where
  pub end : Entry
  pub contains : Contains entries end
  pub number_is : txn_of end.rec ≡ number_at jobs place
  pub is_end : ends end.rec ≡ true
  pub gave : AllByRecursion (AreGivenFrom (number_at jobs place) (end.start + end.size) given) (job_at jobs place).legs

-- those of the places that a worker took whose transfers it made: all, or all but the last, which was cut off
abbrev pub made_of : List ℕ → Worked → List ℕ
made_of taken All = taken
made_of taken (Cut cause) = take (length taken - 1) taken

-- so it is with the transfer at each of these places
abbrev pub HaveWaited : NumberedJobs → List ℕ → List Entry → List Given → Type 0
HaveWaited jobs places entries given = AllByRecursion (λ place. HasWaited jobs place entries given) places
