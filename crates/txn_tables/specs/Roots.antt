-- Where searches begin.
use Rattle.std.specs.Prelude.{◌≤◌, ◌%◌, ℕ, List, length}
use Rattle.txn_tables.specs.declared.node.Node.{Node}
use Rattle.txn_tables.specs.declared.row.Row.{Row}
use Rattle.txn_tables.specs.declared.scattered.TheConstants.{ROOTS}
use Rattle.txn_tables.specs.Rows.{number_at}

-- the node at which the search for the transaction begins, 1 for the first of all, 0 where there is none
abbrev pub root_of : Row → ℕ → ℕ
root_of roots txn = number_at roots (txn % ROOTS)

-- no search begins behind the last node
abbrev pub BeginInside : Row → List Node → Type 0
BeginInside roots nodes = (txn : ℕ) → root_of roots txn ≤ length nodes
