-- What a Commit makes of the rows that are kept of the accounts: a balance and the last Commit for each.
use Rattle.std.specs.Prelude.{◌≡◌, ◌<◌, ℕ, ◌+◌, if◌then◌else◌, List, length, slice_index_or, slice_set}
use Rattle.log_record.specs.declared.rec.Placed.{Placed}
use Rattle.log_record.specs.Spelling.{IsBalance}
use Rattle.lock_core.specs.declared.update.Change.{Change}
use Rattle.lock_core.specs.Records.{gain, loss}
use Rattle.lock_core.specs.Transactions.{touches}
use Rattle.lsn_space.specs.Opening as space
use Rattle.lock_core.specs.Sums.{BaseState, Opening, moved, IsBalanceOf, last_commit_of}

-- the row of an account
abbrev pub row : List (ℕ × ℕ) → ℕ → ℕ × ℕ
row rows account = slice_index_or rows account (0, 0)

-- what an opening says, as it is read from a file or kept: the state that its rows are, and its number
abbrev pub opening_of : space.Opening → Opening
opening_of opening = record {
  state = record {
    end = opening.lsn;
    accounts = length opening.accounts;
    balance = λ account. (row opening.accounts account).0;
    last_commit = λ account. (row opening.accounts account).1;
  };
  txn = opening.txn;
}

-- this is the balance after the changes, of an account that had that balance before
abbrev pub IsBalanceAfter : List Change → ℕ → ℕ → ℕ → Type 0
IsBalanceAfter changes account before after = after + moved loss account changes ≡ before + moved gain account changes

-- the changes lead the account out of its range
abbrev pub LeavesRange : List Change → ℕ → ℕ → Type 0
LeavesRange changes account before = (after : ℕ) → IsBalance after → IsBalanceAfter changes account before after → ⊥

-- the account's row before and after a Commit of these changes that ends here
pub record AppliesToRow (changes : List Change) (end account : ℕ) (old new : ℕ × ℕ) : Type 0 where
  pub range : IsBalance new.0
  pub balance : IsBalanceAfter changes account old.0 new.0
  pub last : new.1 ≡ (if touches account changes then end else old.1)

-- the rows before and after the part of such a Commit that concerns one account of its changes
pub record AppliesToAccount (changes : List Change) (account end : ℕ) (old new : List (ℕ × ℕ)) : Type 0 where
  pub balance : ℕ
  pub range : IsBalance balance
  pub after : IsBalanceAfter changes account (row old account).0 balance
  pub rows : new ≡ slice_set old account (balance, end)

-- all rows before and after such a Commit
pub record AppliesChanges (changes : List Change) (end : ℕ) (old new : List (ℕ × ℕ)) : Type 0 where
  pub count : length new ≡ length old
  pub each : (account : ℕ) → account < length old → AppliesToRow changes end account (row old account) (row new account)

-- every balance is in its range
abbrev pub AreRowsInRange : List (ℕ × ℕ) → Type 0
AreRowsInRange rows = (account : ℕ) → account < length rows → IsBalance (row rows account).0

-- one row is led out of its range
pub record LeavesSome (changes : List Change) (rows : List (ℕ × ℕ)) : Type 0 where
  pub account : ℕ
  pub inside : account < length rows
  pub leaves : LeavesRange changes account (row rows account).0

-- The rows are those of the history: each account's balance by its equation, in its range, and its last Commit. A judge keeps this from
-- record to record, and it asks for no lawful list; who only reads the rows of a lawful list has `ShowsAccounts`.
pub record KeepsRows (rows : List (ℕ × ℕ)) (base : BaseState) (h : List Placed) : Type 0 where
  pub count : length rows ≡ base.accounts
  pub range : AreRowsInRange rows
  pub balance : (account : ℕ) → account < length rows → IsBalanceOf base h account (row rows account).0
  pub last : (account : ℕ) → account < length rows → (row rows account).1 ≡ last_commit_of base h account
