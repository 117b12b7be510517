-- What nodes say of a transaction.
use Rattle.std.specs.Prelude.{◌≡◌, ◌≢◌, ◌==◌, ◌<◌, ◌+◌, ◌/◌, ◌%◌, ℕ, zero, suc, if◌then◌else◌, Option, Some, None, List, [], ◌∷◌, length, slice_index_or}
use Rattle.txn_tables.specs.declared.node.Node.{Node}
use Rattle.txn_tables.specs.declared.node.TheConstants.{WAYS}

-- how many places further on the search goes from the node with this path left, 0 where no way leads on
abbrev pub ahead : Node → ℕ → ℕ
ahead node path = slice_index_or node.ways (path % WAYS) 0

-- the node leads so many places further on with this path left, and else where it led
pub record Links (old new : Node) (path places : ℕ) : Type 0 where
  pub txn : new.txn ≡ old.txn
  pub value : new.value ≡ old.value
  pub here : (other : ℕ) → other % WAYS ≡ path % WAYS → ahead new other ≡ places
  pub elsewhere : (other : ℕ) → other % WAYS ≢ path % WAYS → ahead new other ≡ ahead old other

-- what is read behind the nodes
abbrev pub no_node : Node
no_node = record { txn = 0; value = 0; ways = [] }

-- no way from a node leads behind the last
abbrev pub LeadInside : List Node → Type 0
LeadInside nodes = (at path : ℕ) → at < length nodes → at + ahead (slice_index_or nodes at no_node) path < length nodes

-- what the nodes have of the transaction where the search goes on so many places, 1 for the first of them, with this path left
abbrev pub node_value : List Node → ℕ → ℕ → ℕ → Option ℕ
node_value [] places path txn = None
node_value (node ∷ nodes) zero path txn = None
node_value (node ∷ nodes) (suc zero) path txn =
    if node.txn == txn then Some node.value else node_value nodes (ahead node path) (path / WAYS) txn
node_value (node ∷ nodes) (suc (suc places)) path txn = node_value nodes (suc places) path txn

-- where the search for the transaction goes on so many places with this path left, it comes to the node at this place with that path left
abbrev pub Comes : List Node → ℕ → ℕ → ℕ → ℕ → ℕ → Type 0
Comes [] places path txn at left = ⊥
Comes (node ∷ nodes) zero path txn at left = ⊥
Comes (node ∷ nodes) (suc zero) path txn zero left = path ≡ left
Comes (node ∷ nodes) (suc zero) path txn (suc at) left = (node.txn ≢ txn) × Comes nodes (ahead node path) (path / WAYS) txn at left
Comes (node ∷ nodes) (suc (suc places)) path txn zero left = ⊥
Comes (node ∷ nodes) (suc (suc places)) path txn (suc at) left = Comes nodes (suc places) path txn at left
