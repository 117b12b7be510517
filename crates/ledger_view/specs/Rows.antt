-- How the entries of an account are kept: without what they add, which the balances tell.
use Rattle.std.specs.Prelude.{ℕ, ℤ, pos, ◌-ℤ◌, List, [], ◌∷◌}
use Rattle.ledger_view.specs.declared.rows.Row.{Row}
use Rattle.ledger_view.specs.declared.entries.Entry.{Entry}

-- the entry that a row is kept of, behind this balance
abbrev pub entry_of_row : ℕ → Row → Entry
entry_of_row before row = record { end = row.end; txn = row.txn; net = pos row.balance -ℤ pos before; balance = row.balance }

-- and the entry of a row whose net is known
abbrev pub entry_of_net : Row → ℤ → Entry
entry_of_net row net = record { end = row.end; txn = row.txn; net = net; balance = row.balance }

-- the entries that rows are kept of: the first behind this balance, and each other behind the balance of the row before it
abbrev pub entries_of_rows : ℕ → List Row → List Entry
entries_of_rows first [] = []
entries_of_rows first (row ∷ rows) = entry_of_row first row ∷ entries_of_rows row.balance rows
