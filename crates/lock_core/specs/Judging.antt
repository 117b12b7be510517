-- What a judge keeps of the history so far, and answers on one entry more.
use Rattle.std.specs.Prelude.{◌≡◌, ◌<◌, ℕ, ◌+◌, ◌*◌, false, List, length, Result, MatchResult}
use Rattle.std.specs.List.{AllByRecursion}
use Rattle.lsn_space.specs.Accounts.{Accounts}
use Rattle.log_record.specs.declared.rec.Placed.{Placed}
use Rattle.lsn_space.specs.declared.opening.TheConstants.{MOST_ACCOUNTS}
use Rattle.lock_core.specs.declared.reason.Why.{Why}
use Rattle.lock_core.specs.declared.update.Change.{Change}
use Rattle.lock_core.specs.Transactions.{own_records_of, updates_of, has_end}
use Rattle.lock_core.specs.Sums.{Opening, no_opening}
use Rattle.lock_core.specs.Lawful.{tests, Passes, IsLawful, base_with}
use Rattle.lock_core.specs.declared.plain.judging.PlainFault.{PlainFault}
use Rattle.lock_core.specs.declared.plain.judging.PlainFault.TheVariants as plain
use Rattle.lock_core.specs.Faults.{IsFirstFailing, IsUnlawfulAt}
use Rattle.lock_core.specs.AccountRows.{KeepsRows}

-- the history is lawful behind the opening, and the accounts kept are its accounts
pub record IsJudged (opening : Opening) (accounts : Accounts) (h : List Placed) : Type 0 where
  pub lawful : IsLawful opening h
  pub room : accounts.room ≡ MOST_ACCOUNTS
  pub rows : KeepsRows accounts.rows (base_with opening h) h

-- the answer on one entry more: it passes all tests, or this is the first test that it fails
abbrev pub Judges : {A : Type 0} → Opening → List Placed → Placed → Result A Why → Type 0
Judges opening h entry result =
    MatchResult result (λ _. AllByRecursion (Passes opening h entry) tests) (IsFirstFailing (Passes opening h entry))

-- a Commit of so many legs passes the tests up to that of the legs, and these are the changes of its transaction
pub record IsCommitting (opening : Opening) (h : List Placed) (txn legs : ℕ) (changes : List Change) : Type 0 where
  pub some : 0 < opening.state.accounts + length h
  pub above : opening.txn < txn
  pub unended : has_end (own_records_of txn h) ≡ false
  pub are : changes ≡ updates_of txn h
  pub legs_are : length changes ≡ 2 * legs

-- why the plain program answers no accounts of a whole log; want of memory says nothing of the history
abbrev pub IsPlainFaultOf : List Placed → PlainFault → Type 0
IsPlainFaultOf h (plain.Unlawful lsn why) = IsUnlawfulAt no_opening h lsn why
IsPlainFaultOf h plain.NoMemory = Unit {0}
