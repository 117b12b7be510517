-- What a table says of transactions.
use Rattle.std.specs.Prelude.{◌≡◌, ◌==◌, ◌<◌, ◌≤◌, ◌+◌, ◌*◌, ◌-◌, ℕ, suc, nat_lt, if◌then◌else◌, unwrap_or, Result, IfOk, OnOk}
use Rattle.txn_tables.specs.declared.txn_table.TxnTable.{TxnTable}
use Rattle.txn_tables.specs.declared.txn_table.TheConstants.{FIRST_PLACES}
use Rattle.txn_tables.specs.Rows.{number_at}
use Rattle.txn_tables.specs.Searches.{scattered_value}

-- what stands in the row for a transaction, 0 where it has no place there
abbrev pub placed_value : TxnTable → ℕ → ℕ
placed_value table txn = if nat_lt txn table.first then 0 else number_at table.row (txn - table.first)

-- the number of a transaction in the table, 0 where none was put
abbrev pub value_at : TxnTable → ℕ → ℕ
value_at table txn = unwrap_or (scattered_value table.scattered txn) (placed_value table txn)

-- the table after a number was put for one transaction
abbrev pub PutsValue : TxnTable → TxnTable → ℕ → ℕ → Type 0
PutsValue old new txn value = (other : ℕ) → value_at new other ≡ (if txn == other then value else value_at old other)

-- the number of a transaction is put, and the one before it answered; the row has room for two more places at most
pub record Puts {E : Type 0} (old new : TxnTable) (txn value : ℕ) (result : Result ℕ E) : Type 0 where
  pub put : OnOk result (PutsValue old new txn value)
  pub before : IfOk result (λ before. before ≡ value_at old txn)
  pub grows : new.puts ≤ suc old.puts

-- the row may have a place for the transaction
abbrev pub IsPlaced : TxnTable → ℕ → Type 0
IsPlaced table txn = (table.first ≤ txn) × (txn < table.first + FIRST_PLACES + 2 * table.puts)
