-- How nodes are searched, and what a node more, or another value of one, makes of them.
use Rattle.std.proofs.Common.{◌≡◌, ◌≢◌, ◌<◌, ◌≤◌, ◌⊎◌, ⊎_elim, inl, inr, ◌==◌, ◌/◌, ◌%◌, ◌+◌, ◌-◌, ℕ, zero, suc, cond, Some, None, List, [], ◌∷◌}
use Rattle.std.proofs.Common.{◌++◌, length, set, get_or, refl, ap, ◌∙◌, sym, subst, arith, eq-eqb, ne_eqb}
use Rattle.std.proofs.Math.Logic.{⊎_map}
use mathlib.Core.Logic.{dite}
use native.Mathlib.Decide.{ℕ_discrete}
use Rattle.txn_tables.specs.declared.node.Node.{Node}
use Rattle.txn_tables.specs.declared.node.TheConstants.{WAYS}
use Rattle.txn_tables.specs.Nodes.{ahead, Links, LeadInside, node_value, Comes, no_node}

pub value-nowhere : (nodes : List Node) (path txn : ℕ) → node_value nodes 0 path txn ≡ None
value-nowhere [] path txn = refl
value-nowhere (node ∷ nodes) path txn = refl

-- the first node is the transaction's, or the search goes on from it
value-own : (node : Node) (nodes : List Node) (path txn : ℕ) → node.txn ≡ txn → node_value (node ∷ nodes) 1 path txn ≡ Some node.value
value-own node nodes path txn own =
    ap (λ b. cond b (Some node.value) (node_value nodes (ahead node path) (path / WAYS) txn)) (eq-eqb node.txn txn own)

value-on : (node : Node) (nodes : List Node) (path txn : ℕ) → node.txn ≢ txn
    → node_value (node ∷ nodes) 1 path txn ≡ node_value nodes (ahead node path) (path / WAYS) txn
value-on node nodes path txn other =
    ap (λ b. cond b (Some node.value) (node_value nodes (ahead node path) (path / WAYS) txn)) (ne_eqb node.txn txn other)

-- what holds at the first node, and with each node more before those where it holds, holds wherever the search comes
module _ (txn : ℕ) (P : List Node → ℕ → ℕ → ℕ → ℕ → Type 0)
    (here : (node : Node) (nodes : List Node) (path : ℕ) → P (node ∷ nodes) 1 path 0 path)
    (on : (node : Node) (nodes : List Node) (path at left : ℕ) → node.txn ≢ txn → P nodes (ahead node path) (path / WAYS) at left
    → P (node ∷ nodes) 1 path (suc at) left)
    (skip : (node : Node) (nodes : List Node) (places path at left : ℕ) → P nodes (suc places) path at left
    → P (node ∷ nodes) (suc (suc places)) path (suc at) left) where
  wherever : (nodes : List Node) (places path at left : ℕ) → Comes nodes places path txn at left → P nodes places path at left
  wherever [] places path at left comes = absurd comes
  wherever (node ∷ nodes) zero path at left comes = absurd comes
  wherever (node ∷ nodes) (suc zero) path zero left comes = subst (P (node ∷ nodes) 1 path 0) comes (here node nodes path)
  wherever (node ∷ nodes) (suc zero) path (suc at) left comes =
      on node nodes path at left comes.0 (wherever nodes (ahead node path) (path / WAYS) at left comes.1)
  wherever (node ∷ nodes) (suc (suc places)) path zero left comes = absurd comes
  wherever (node ∷ nodes) (suc (suc places)) path (suc at) left comes =
      skip node nodes places path at left (wherever nodes (suc places) path at left comes)

-- the search comes to the node of the transaction
pub value-found : (nodes : List Node) (places path txn at left : ℕ) → Comes nodes places path txn at left
    → (get_or nodes at no_node).txn ≡ txn → node_value nodes places path txn ≡ Some (get_or nodes at no_node).value
value-found nodes places path txn at left = wherever txn
    (λ nodes places path at left. (get_or nodes at no_node).txn ≡ txn
    → node_value nodes places path txn ≡ Some (get_or nodes at no_node).value)
    (λ node nodes path own. value-own node nodes path txn own)
    (λ node nodes path at left other found own. value-on node nodes path txn other ∙ found own)
    (λ node nodes places path at left found. found) nodes places path at left

-- the search comes to another node, from which no way leads on
pub value-ended : (nodes : List Node) (places path txn at left : ℕ) → Comes nodes places path txn at left
    → (get_or nodes at no_node).txn ≢ txn → ahead (get_or nodes at no_node) left ≡ 0 → node_value nodes places path txn ≡ None
value-ended nodes places path txn at left = wherever txn
    (λ nodes places path at left. (get_or nodes at no_node).txn ≢ txn → ahead (get_or nodes at no_node) left ≡ 0
    → node_value nodes places path txn ≡ None)
    (λ node nodes path other last. value-on node nodes path txn other
    ∙ ap (λ places. node_value nodes places (path / WAYS) txn) last ∙ value-nowhere nodes (path / WAYS) txn)
    (λ node nodes path at left passed ended other last. value-on node nodes path txn passed ∙ ended other last)
    (λ node nodes places path at left ended. ended) nodes places path at left

-- the search comes to each node that it is led to
pub Comes-start : (nodes : List Node) (at path txn : ℕ) → at < length nodes → Comes nodes (suc at) path txn at path
Comes-start [] at path txn inside = absurd (omega arith)
Comes-start (node ∷ nodes) zero path txn inside = refl
Comes-start (node ∷ nodes) (suc at) path txn inside = Comes-start nodes at path txn (omega arith)

-- the search goes on from the first node
comes-first : (node : Node) (nodes : List Node) (path txn next : ℕ) → node.txn ≢ txn → suc next ≡ ahead node path → next < length nodes
    → Comes (node ∷ nodes) 1 path txn (suc next) (path / WAYS)
comes-first node nodes path txn next other led inside =
    (other, subst (λ places. Comes nodes places (path / WAYS) txn next (path / WAYS)) led (Comes-start nodes next (path / WAYS) txn inside))

-- the search goes on from another node
pub Comes-step : (nodes : List Node) (places path txn at left next : ℕ) → Comes nodes places path txn at left
    → (get_or nodes at no_node).txn ≢ txn → next ≡ at + ahead (get_or nodes at no_node) left → at < next → next < length nodes
    → Comes nodes places path txn next (left / WAYS)
Comes-step [] places path txn at left next comes other is behind inside = absurd comes
Comes-step (node ∷ nodes) places path txn at left zero comes other is behind inside = absurd (omega arith)
Comes-step (node ∷ nodes) zero path txn at left (suc next) comes other is behind inside = absurd comes
Comes-step (node ∷ nodes) (suc zero) path txn zero left (suc next) comes other is behind inside =
    subst (λ to. Comes (node ∷ nodes) 1 path txn (suc next) (to / WAYS)) comes
    (comes-first node nodes path txn next other (is ∙ (omega arith) ∙ ap (ahead node) (sym comes)) (omega arith))
Comes-step (node ∷ nodes) (suc zero) path txn (suc at) left (suc next) comes other is behind inside =
    (comes.0, Comes-step nodes (ahead node path) (path / WAYS) txn at left next comes.1 other (omega arith) (omega arith) (omega arith))
Comes-step (node ∷ nodes) (suc (suc places)) path txn zero left (suc next) comes other is behind inside = absurd comes
Comes-step (node ∷ nodes) (suc (suc places)) path txn (suc at) left (suc next) comes other is behind inside =
    Comes-step nodes (suc places) path txn at left next comes other (omega arith) (omega arith) (omega arith)

-- no way leads behind the last node: the same, node by node
abbrev pub Leads : List Node → Type 0
Leads [] = Unit {0}
Leads (node ∷ nodes) = ((path : ℕ) → ahead node path ≤ length nodes) × Leads nodes

pub LeadInside-leads : (nodes : List Node) → LeadInside nodes → Leads nodes
LeadInside-leads [] inside = tt
LeadInside-leads (node ∷ nodes) inside = (
  λ path. let first = inside 0 path (omega arith) in omega arith,
  LeadInside-leads nodes (λ at path within. let behind = inside (suc at) path (omega arith) in omega arith),
)

-- another value stands in the node at this place
pub value-set-own : (nodes : List Node) (places path txn at left : ℕ) (new : Node) → Comes nodes places path txn at left → new.txn ≡ txn
    → node_value (set nodes at new) places path txn ≡ Some new.value
value-set-own nodes places path txn at left new comes own = wherever txn
    (λ nodes places path at left. node_value (set nodes at new) places path txn ≡ Some new.value)
    (λ node nodes path. value-own new nodes path txn own)
    (λ node nodes path at left other found. value-on node (set nodes at new) path txn other ∙ found)
    (λ node nodes places path at left found. found) nodes places path at left comes

-- and it is the first of another transaction
value-set-first : (node new : Node) (nodes : List Node) (path other : ℕ) → new.ways ≡ node.ways → new.txn ≢ other → node.txn ≢ other
    → node_value (new ∷ nodes) 1 path other ≡ node_value (node ∷ nodes) 1 path other
value-set-first node new nodes path other ways apart before = value-on new nodes path other apart
    ∙ ap (λ ways. node_value nodes (get_or ways (path % WAYS) 0) (path / WAYS) other) ways ∙ sym (value-on node nodes path other before)

pub value-set-other : (nodes : List Node) (places path other at : ℕ) (new : Node) → new.txn ≡ (get_or nodes at no_node).txn
    → new.ways ≡ (get_or nodes at no_node).ways → new.txn ≢ other
    → node_value (set nodes at new) places path other ≡ node_value nodes places path other
value-set-other [] places path other at new txn ways apart = refl
value-set-other (node ∷ nodes) zero path other zero new txn ways apart = refl
value-set-other (node ∷ nodes) zero path other (suc at) new txn ways apart = refl
value-set-other (node ∷ nodes) (suc zero) path other zero new txn ways apart =
    value-set-first node new nodes path other ways apart (λ same. apart (txn ∙ same))
value-set-other (node ∷ nodes) (suc zero) path other (suc at) new txn ways apart =
    ap (λ rest. cond (node.txn == other) (Some node.value) rest) (value-set-other nodes (ahead node path) (path / WAYS) other at new txn ways apart)
value-set-other (node ∷ nodes) (suc (suc places)) path other zero new txn ways apart = refl
value-set-other (node ∷ nodes) (suc (suc places)) path other (suc at) new txn ways apart =
    value-set-other nodes (suc places) path other at new txn ways apart

-- a last node, from which no way leads on
pub value-last : (nodes : List Node) (last : Node) (path txn : ℕ) → ((p : ℕ) → ahead last p ≡ 0)
    → node_value (nodes ++ last ∷ []) (suc (length nodes)) path txn ≡ cond (last.txn == txn) (Some last.value) None
value-last [] last path txn none = refl
value-last (node ∷ nodes) last path txn none = value-last nodes last path txn none

pub value-more : (nodes : List Node) (last : Node) (places path txn : ℕ) → Leads nodes → places ≤ length nodes
    → node_value (nodes ++ last ∷ []) places path txn ≡ node_value nodes places path txn
value-more [] last zero path txn lead inside = refl
value-more [] last (suc places) path txn lead inside = absurd (omega arith)
value-more (node ∷ nodes) last zero path txn lead inside = refl
value-more (node ∷ nodes) last (suc zero) path txn lead inside =
    ap (λ rest. cond (node.txn == txn) (Some node.value) rest)
    (value-more nodes last (ahead node path) (path / WAYS) txn lead.1 (lead.0 path))
value-more (node ∷ nodes) last (suc (suc places)) path txn lead inside = value-more nodes last (suc places) path txn lead.1 (omega arith)

-- each way of the node leads where it led from the one at this place, or from where no way led on, to a node behind the last
abbrev pub LinksLast : List Node → ℕ → Node → Type 0
LinksLast nodes at new = (path : ℕ) → (ahead new path ≡ ahead (get_or nodes at no_node) path)
    ⊎ ((ahead (get_or nodes at no_node) path ≡ 0) × (ahead new path ≡ length nodes - at))

pub links-last : (nodes : List Node) (at path places : ℕ) (new : Node) → Links (get_or nodes at no_node) new path places
    → ahead (get_or nodes at no_node) path ≡ 0 → places ≡ length nodes - at → LinksLast nodes at new
links-last nodes at path places new links last is other = dite (ℕ_discrete (other % WAYS) (path % WAYS))
    (λ same. inr (ap (λ n. get_or (get_or nodes at no_node).ways n 0) same ∙ last, links.here other same ∙ is))
    (λ apart. inl (links.elsewhere other apart))

links-behind : (node : Node) (nodes : List Node) (at : ℕ) (new : Node) → LinksLast (node ∷ nodes) (suc at) new → LinksLast nodes at new
links-behind node nodes at new links path = ⊎_map (λ same. same) (λ last. (last.0, last.1 ∙ omega arith)) (links path)

-- another node leads to the last
module _ (new last : Node) (none : (p : ℕ) → ahead last p ≡ 0) where
  -- where the way of another transaction may go on to the last node
  follow : (nodes : List Node) (old : Node) (path other : ℕ) → Leads nodes → ahead old path ≤ length nodes
      → (ahead new path ≡ ahead old path) ⊎ ((ahead old path ≡ 0) × (ahead new path ≡ suc (length nodes) - 0)) → last.txn ≢ other
      → node_value (nodes ++ last ∷ []) (ahead new path) (path / WAYS) other ≡ node_value nodes (ahead old path) (path / WAYS) other
  follow nodes old path other lead inside links apart = ⊎_elim
      (λ same. ap (λ places. node_value (nodes ++ last ∷ []) places (path / WAYS) other) same
      ∙ value-more nodes last (ahead old path) (path / WAYS) other lead inside)
      (λ to. ap (λ places. node_value (nodes ++ last ∷ []) places (path / WAYS) other) (to.1 ∙ omega arith)
      ∙ value-last nodes last (path / WAYS) other none ∙ ap (λ b. cond b (Some last.value) None) (ne_eqb last.txn other apart)
      ∙ sym (ap (λ places. node_value nodes places (path / WAYS) other) to.0 ∙ value-nowhere nodes (path / WAYS) other))
      links

  -- it is the first
  value-linked-first : (node : Node) (nodes : List Node) (path other : ℕ) → Leads (node ∷ nodes) → new.txn ≡ node.txn
      → new.value ≡ node.value → LinksLast (node ∷ nodes) 0 new → last.txn ≢ other
      → node_value (new ∷ nodes ++ last ∷ []) 1 path other ≡ node_value (node ∷ nodes) 1 path other
  value-linked-first node nodes path other lead txn value links apart =
      ap (λ n. cond (n == other) (Some new.value) (node_value (nodes ++ last ∷ []) (ahead new path) (path / WAYS) other)) txn
      ∙ ap (λ v. cond (node.txn == other) (Some v) (node_value (nodes ++ last ∷ []) (ahead new path) (path / WAYS) other)) value
      ∙ ap (λ rest. cond (node.txn == other) (Some node.value) rest)
      (follow nodes node path other lead.1 (lead.0 path) (links path) apart)

  -- what there is of other transactions
  module _ (other : ℕ) (apart : last.txn ≢ other) where
    pub value-linked-other : (nodes : List Node) (at places path : ℕ) → Leads nodes → places ≤ length nodes → at < length nodes
        → new.txn ≡ (get_or nodes at no_node).txn → new.value ≡ (get_or nodes at no_node).value → LinksLast nodes at new
        → node_value (set (nodes ++ last ∷ []) at new) places path other ≡ node_value nodes places path other
    value-linked-other [] at places path lead within inside txn value links = absurd (omega arith)
    value-linked-other (node ∷ nodes) zero zero path lead within inside txn value links = refl
    value-linked-other (node ∷ nodes) (suc at) zero path lead within inside txn value links = refl
    value-linked-other (node ∷ nodes) zero (suc zero) path lead within inside txn value links =
        value-linked-first node nodes path other lead txn value links apart
    value-linked-other (node ∷ nodes) (suc at) (suc zero) path lead within inside txn value links =
        ap (λ rest. cond (node.txn == other) (Some node.value) rest) (value-linked-other nodes at (ahead node path) (path / WAYS)
        lead.1 (lead.0 path) (omega arith) txn value (links-behind node nodes at new links))
    value-linked-other (node ∷ nodes) zero (suc (suc places)) path lead within inside txn value links =
        value-more nodes last (suc places) path other lead.1 (omega arith)
    value-linked-other (node ∷ nodes) (suc at) (suc (suc places)) path lead within inside txn value links =
        value-linked-other nodes at (suc places) path lead.1 (omega arith) (omega arith) txn value (links-behind node nodes at new links)

  -- and of the last node's own
  pub value-linked-own : (nodes : List Node) (at places path txn left : ℕ) → Comes nodes places path txn at left → new.txn ≢ txn
      → ahead new left ≡ length nodes - at → last.txn ≡ txn → node_value (set (nodes ++ last ∷ []) at new) places path txn ≡ Some last.value
  value-linked-own nodes at places path txn left comes other to own = wherever txn
      (λ nodes places path at left. ahead new left ≡ length nodes - at
      → node_value (set (nodes ++ last ∷ []) at new) places path txn ≡ Some last.value)
      (λ node nodes path to. value-on new (nodes ++ last ∷ []) path txn other
      ∙ ap (λ places. node_value (nodes ++ last ∷ []) places (path / WAYS) txn) (to ∙ omega arith)
      ∙ value-last nodes last (path / WAYS) txn none ∙ ap (λ b. cond b (Some last.value) None) (eq-eqb last.txn txn own))
      (λ node nodes path at left passed found to. value-on node (set (nodes ++ last ∷ []) at new) path txn passed ∙ found (to ∙ omega arith))
      (λ node nodes places path at left found to. found (to ∙ omega arith)) nodes places path at left comes to
