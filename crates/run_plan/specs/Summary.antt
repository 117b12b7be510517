-- The summary of a run: six lines, each a word and a number. A line ends with LF.
use Rattle.std.specs.Prelude.{ℕ, ◌+◌, ◌*◌, List, ◌++◌, codes, length}
use Rattle.lsn_space.specs.Number.{number_text}
use Rattle.lock_core.specs.AccountRows.{row}
use Rattle.lock_core.specs.Sums.{sum_below}
use Rattle.run_plan.specs.declared.summary.Counts.{Counts}

-- the sum over so many accounts, each balance as often as the account's number and 1 say: it depends on which account has what
abbrev pub mix_below : ℕ → (ℕ → ℕ) → ℕ
mix_below accounts balance = sum_below accounts (λ account. (account + 1) * balance account)

-- the balance that rows keep of the account
abbrev pub balance_in : List (ℕ × ℕ) → ℕ → ℕ
balance_in rows account = (row rows account).0

unfoldable pub count_line : List ℕ → ℕ → List ℕ
count_line word n = word ++ codes " " ++ number_text n ++ codes "\n"

-- how many transfers there were, were done, and were refused; the end of the log; the sum of the balances, and their mix
abbrev pub summary_lines : ℕ → ℕ → ℕ → ℕ → ℕ → ℕ → List ℕ
summary_lines transfers done refused lsn total mix =
    count_line (codes "transfers") transfers ++ count_line (codes "done") done ++ count_line (codes "refused") refused
    ++ count_line (codes "lsn") lsn ++ count_line (codes "total") total ++ count_line (codes "mix") mix

-- the summary of a run: what is counted of it, and the accounts that it left
abbrev pub summary_of : Counts → List (ℕ × ℕ) → List ℕ
summary_of counts rows =
    let balance = balance_in rows in
    summary_lines counts.transfers counts.done counts.refused counts.lsn (sum_below (length rows) balance) (mix_below (length rows) balance)
