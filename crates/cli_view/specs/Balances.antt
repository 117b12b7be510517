-- The balances that a history leaves, as they are put into rows.
use Rattle.std.specs.Prelude.{◌≡◌, ◌<◌, ℕ, List, length, slice_index_or}
use Rattle.log_record.specs.declared.rec.Placed.{Placed}
use Rattle.lock_core.specs.Sums.{Opening}
use Rattle.lock_core.specs.Lawful.{base_with}
use Rattle.ledger_view.specs.Entries.{balance_after}

-- the rows have the balances of the first accounts
abbrev pub AreBalances : Opening → List Placed → List (ℕ × ℕ) → Type 0
AreBalances opening h rows = (account : ℕ) → account < length rows → balance_after opening h account ≡ (slice_index_or rows account (0, 0)).0

-- they are all that there are
pub record HasBalances (opening : Opening) (h : List Placed) (rows : List (ℕ × ℕ)) : Type 0 where
  pub each : AreBalances opening h rows
  pub count : length rows ≡ (base_with opening h).accounts
