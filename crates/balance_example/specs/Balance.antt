-- What one account has in a log.
use Rattle.std.specs.Prelude.{◌≡◌, ℕ, ◌<◌, ◌≤◌, List, Option, None, Some}
use Rattle.lock_core.specs.Sums.{balance_of}
use Rattle.log_recovery.specs.Opened.{OpenedList, placed, base_in}
use Rattle.log_recovery.specs.Recovery.{HoldsLawful}

-- in the list the account has this balance, and with None it isn't one of the list's
abbrev pub IsBalanceIn : OpenedList → ℕ → Option ℕ → Type 0
IsBalanceIn list account None = (base_in list).accounts ≤ account
IsBalanceIn list account (Some balance) = (account < (base_in list).accounts) × (balance ≡ balance_of (base_in list) (placed list) account)

-- the bytes hold a lawful list, in which the account has this balance
pub record HasBalance (bytes : List ℕ) (account : ℕ) (balance : Option ℕ) : Type 0 where
  pub list : OpenedList
  pub held : HoldsLawful bytes list
  pub is : IsBalanceIn list account balance
