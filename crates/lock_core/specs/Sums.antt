-- What a history says of the accounts: balances as sums over the committed transactions, and last Commits.
use Rattle.std.specs.Prelude.{◌≡◌, ◌==◌, ◌&&◌, ℕ, zero, suc, ◌+◌, ◌-◌, ◌<◌, max, ℤ, if◌then◌else◌, Bool, true, List, [], ◌∷◌, ◌++◌, length, slice_get, Some}
use Rattle.log_record.specs.declared.rec.Placed.{Placed}
use Rattle.log_record.specs.Spelling.{IsBalance}
use Rattle.lock_core.specs.declared.update.Change.{Change}
use Rattle.lock_core.specs.History.{end_from}
use Rattle.lock_core.specs.Records.{txn_of, commits, changes_of, gain, loss}
use Rattle.lock_core.specs.Transactions.{updates_of, is_committed, touches}

-- a log before the history: where it ends, how many accounts it has, and what it says of each of them
pub record BaseState : Type 0 where
  pub end : ℕ
  pub accounts : ℕ
  pub balance : ℕ → ℕ
  pub last_commit : ℕ → ℕ

-- what stands before a list: the state there, and the greatest transaction number
pub record Opening : Type 0 where
  pub state : BaseState
  pub txn : ℕ

-- nothing stands before a whole log
abbrev pub no_opening : Opening
no_opening = record { state = record { end = 0; accounts = 0; balance = λ account. 0; last_commit = λ account. 0 }; txn = 0 }

-- the state as an opening behind which every transaction may stand: its number is 0
abbrev pub as_opening : BaseState → Opening
as_opening base = record { state = base; txn = 0 }

-- what the changes move of the account, on one side: gain or loss
abbrev pub moved : (ℤ → ℕ) → ℕ → List Change → ℕ
moved side account [] = 0
moved side account (change ∷ changes) = (if change.account == account then side change.delta else 0) + moved side account changes

-- what the Updates of the transactions that count move of the account, on one side
abbrev pub moved_by : (ℕ → Bool) → (ℤ → ℕ) → ℕ → List Placed → ℕ
moved_by counts side account [] = 0
moved_by counts side account (entry ∷ h) =
    (if counts (txn_of entry.rec) then moved side account (changes_of entry.rec) else 0) + moved_by counts side account h

-- what the committed transactions move of the account, on one side
abbrev pub total : (ℤ → ℕ) → ℕ → List Placed → ℕ
total side account h = moved_by (λ txn. is_committed txn h) side account h

-- This is the balance of the account: with all that was taken, it is the balance of before with all that was added.
abbrev pub IsBalanceOf : BaseState → List Placed → ℕ → ℕ → Type 0
IsBalanceOf base h account balance = balance + total loss account h ≡ base.balance account + total gain account h

-- the balance of the account as a number; in a lawful list it is the balance
abbrev pub balance_of : BaseState → List Placed → ℕ → ℕ
balance_of base h account = base.balance account + total gain account h - total loss account h

-- every account begins with a balance in its range
abbrev pub BeginsInRange : BaseState → Type 0
BeginsInRange base = (account : ℕ) → account < base.accounts → IsBalance (base.balance account)

-- every account has a balance in its range
abbrev pub AreInRange : BaseState → List Placed → Type 0
AreInRange base h = (account : ℕ) → account < base.accounts → (balance : ℕ) × IsBalance balance × IsBalanceOf base h account balance

-- the sum over the accounts below this one
abbrev pub sum_below : ℕ → (ℕ → ℕ) → ℕ
sum_below zero amount = 0
sum_below (suc n) amount = sum_below n amount + amount n

-- the end of the last Commit whose transaction has an Update of the account
abbrev pub last_commit_of : BaseState → List Placed → ℕ → ℕ
last_commit_of base [] account = base.last_commit account
last_commit_of base (entry ∷ h) account =
    if commits entry.rec && touches account (updates_of (txn_of entry.rec) h) then entry.end else last_commit_of base h account

-- a Commit of the history that ends here, and whose transaction has an Update of the account
pub record IsCommitOn (h : List Placed) (account end : ℕ) : Type 0 where
  pub commit : Placed
  pub later : List Placed
  pub front : List Placed
  pub whole : h ≡ later ++ commit ∷ front
  pub is_commit : commits commit.rec ≡ true
  pub changes : touches account (updates_of (txn_of commit.rec) front) ≡ true
  pub place : end ≡ commit.end

-- the base state that a history which follows a base state leaves
abbrev pub base_after : BaseState → List Placed → BaseState
base_after base h =
    record { end = end_from base.end h; accounts = base.accounts; balance = balance_of base h; last_commit = last_commit_of base h }

-- the greatest transaction number, 0 where there is none
abbrev pub greatest_txn : List Placed → ℕ
greatest_txn [] = 0
greatest_txn (entry ∷ h) = max (txn_of entry.rec) (greatest_txn h)

-- The rows have the balance and the last Commit of each account, as the numbers that a reader computes from the list. `KeepsRows` of
-- AccountRows.antt implies it, and says more: each is the balance by its equation, and in its range, which here only a lawful list gives.
pub record ShowsAccounts (rows : List (ℕ × ℕ)) (base : BaseState) (h : List Placed) : Type 0 where
  pub count : length rows ≡ base.accounts
  pub each : (account : ℕ) → account < base.accounts
      → slice_get rows account ≡ Some (balance_of base h account, last_commit_of base h account)
