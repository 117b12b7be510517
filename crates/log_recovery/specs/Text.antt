-- The accounts text: the end of a log, and then each account with its balance. A line ends with LF.
use Rattle.std.specs.Prelude.{ℕ, zero, suc, List, [], ◌∷◌, ◌++◌, length, codes, slice_index_or}
use Rattle.std.specs.List.{flat_map}
use Rattle.lsn_space.specs.Number.{number_text}
use Rattle.lock_core.specs.Sums.{balance_of}
use Rattle.lock_core.specs.Lawful.{base_with}
use Rattle.lock_core.specs.AccountRows.{opening_of}
use Rattle.log_recovery.specs.Opened.{OpenedList, list_end, placed}

unfoldable pub lsn_line : ℕ → List ℕ
lsn_line lsn = codes "lsn " ++ number_text lsn ++ codes "\n"

unfoldable pub account_line : ℕ → ℕ → List ℕ
account_line account balance = number_text account ++ codes " " ++ number_text balance ++ codes "\n"

-- 0, 1 and so on below n
abbrev pub numbers_below : ℕ → List ℕ
numbers_below zero = []
numbers_below (suc n) = numbers_below n ++ n ∷ []

-- a line for each of so many accounts
abbrev pub account_lines : (ℕ → ℕ) → ℕ → List ℕ
account_lines balance count = flat_map (λ account. account_line account (balance account)) (numbers_below count)

-- the text of a list
abbrev pub accounts_text : OpenedList → List ℕ
accounts_text list =
    let base = base_with (opening_of list.opening) (placed list) in
    lsn_line (list_end list) ++ account_lines (balance_of base (placed list)) base.accounts

-- the text of accounts that are kept as a balance and a last commit each
abbrev pub rows_text : ℕ → List (ℕ × ℕ) → List ℕ
rows_text lsn rows = lsn_line lsn ++ account_lines (λ account. (slice_index_or rows account (0, 0)).0) (length rows)
