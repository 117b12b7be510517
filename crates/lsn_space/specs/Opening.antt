-- What stands before a list of records.
use Rattle.std.specs.Prelude.{ℕ, ◌<◌, ◌≤◌, ◌^◌, List, [], length}
use Rattle.std.specs.List.{AllByRecursion}
use Rattle.lsn_space.specs.declared.lsn.TheConstants.{LAST}
use Rattle.lsn_space.specs.declared.opening.TheConstants.{MOST_ACCOUNTS, MOST_BALANCE}

-- the LSN at which the list begins, the greatest transaction number before it, and for each account, from account 0 on, its balance and the
-- LSN at which its last commit ends (0 where it has none)
pub record Opening : Type 0 where
  pub lsn : ℕ
  pub txn : ℕ
  pub accounts : List (ℕ × ℕ)

-- nothing stands before a list that is a whole log
abbrev pub no_opening : Opening
no_opening = record { lsn = 0; txn = 0; accounts = [] }

-- the balance is in its range, and the mark is at most this LSN
abbrev pub IsRow : ℕ → ℕ × ℕ → Type 0
IsRow lsn row = (row.0 ≤ MOST_BALANCE) × (row.1 ≤ lsn)

-- an opening with accounts, at most as many as a log may have, each with a balance in its range and a mark at most where the list begins
pub record IsSnapshot (opening : Opening) : Type 0 where
  pub lsn : opening.lsn ≤ LAST
  pub txn : opening.txn < 2 ^ 32
  pub some : 0 < length opening.accounts
  pub most : length opening.accounts ≤ MOST_ACCOUNTS
  pub each : AllByRecursion (IsRow opening.lsn) opening.accounts
