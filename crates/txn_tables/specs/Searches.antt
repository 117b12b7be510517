-- What is kept of transactions whose numbers may lie anywhere, and where a search for one ends.
use Rattle.std.specs.Prelude.{◌≡◌, ◌≢◌, ◌==◌, ◌<◌, ◌/◌, ℕ, if◌then◌else◌, Option, Some, List, length, slice_index_or}
use Rattle.txn_tables.specs.declared.node.Node.{Node}
use Rattle.txn_tables.specs.declared.scattered.End.{End}
use Rattle.txn_tables.specs.declared.scattered.Scattered.{Scattered}
use Rattle.txn_tables.specs.declared.scattered.TheConstants.{ROOTS}
use Rattle.txn_tables.specs.Nodes.{ahead, node_value, Comes, no_node}
use Rattle.txn_tables.specs.Roots.{root_of}

-- what is kept of the transaction
abbrev pub scattered_value : Scattered → ℕ → Option ℕ
scattered_value scattered txn = node_value scattered.nodes.items (root_of scattered.roots txn) (txn / ROOTS) txn

-- what is kept after a value was put for one transaction
abbrev pub PutsScattered : Scattered → Scattered → ℕ → ℕ → Type 0
PutsScattered old new txn value = (other : ℕ) → scattered_value new other ≡ (if txn == other then Some value else scattered_value old other)

-- the search for the transaction, which begins at this root, ends here: at its node, or where no way leads on
pub record IsEnd (nodes : List Node) (root txn : ℕ) (end : End) : Type 0 where
  pub inside : end.at < length nodes
  pub comes : Comes nodes root (txn / ROOTS) txn end.at end.path
  pub last : (slice_index_or nodes end.at no_node).txn ≢ txn → ahead (slice_index_or nodes end.at no_node) end.path ≡ 0
