-- What a search finds, and what is kept after a put.
use Rattle.std.proofs.Common.{◌≡◌, ◌≢◌, ◌<◌, ◌≤◌, ◌==◌, ◌/◌, ◌%◌, ◌+◌, ◌-◌, ℕ, suc, Bool, cond, Option, Some, None, List, [], ◌∷◌, ◌++◌, length, set}
use Rattle.std.proofs.Common.{get_or, refl, ap, ◌∙◌, sym, subst, arith, eq-eqb, ne_eqb, length-append}
use Rattle.std.proofs.lemmas.List.{get_or_default, get_or_append_left}
use mathlib.Core.Logic.{dite}
use native.Mathlib.Decide.{ℕ_discrete}
use Rattle.txn_tables.specs.declared.node.Node.{Node}
use Rattle.txn_tables.specs.declared.node.TheConstants.{WAYS}
use Rattle.txn_tables.specs.declared.row.Row.{Row}
use Rattle.txn_tables.specs.declared.scattered.End.{End}
use Rattle.txn_tables.specs.declared.scattered.TheConstants.{ROOTS}
use Rattle.txn_tables.specs.Nodes.{ahead, Links, LeadInside, node_value, Comes, no_node}
use Rattle.txn_tables.specs.Rows.{number_at, PutsNumber}
use Rattle.txn_tables.specs.Roots.{root_of, BeginInside}
use Rattle.txn_tables.specs.Searches.{IsEnd}
use Rattle.txn_tables.proofs.NodeLemmas.{value-nowhere, value-found, value-ended, Comes-start, Comes-step, LeadInside-leads, value-set-own}
use Rattle.txn_tables.proofs.NodeLemmas.{value-set-other, value-last, value-more, value-linked-own, value-linked-other, LinksLast, links-last}

-- what is read at a place is the node there
pub get_or-no_node : (nodes : List Node) (at : ℕ) (node : Node) → at < length nodes → node ≡ get_or nodes at node → get_or nodes at no_node ≡ node
get_or-no_node nodes at node inside is = get_or_default nodes at no_node node inside ∙ sym is

pub BeginInside-comes : (nodes : List Node) (roots : Row) (txn root : ℕ) → BeginInside roots nodes → root ≡ root_of roots txn → root ≢ 0
    → (root - 1 < length nodes) × Comes nodes (root_of roots txn) (txn / ROOTS) txn (root - 1) (txn / ROOTS)
BeginInside-comes nodes roots txn root begin is some =
    let within = begin txn in
    let inside : root - 1 < length nodes = omega arith in
    let next : suc (root - 1) ≡ root_of roots txn = omega arith in
    (inside, subst (λ n. Comes nodes n (txn / ROOTS) txn (root - 1) (txn / ROOTS)) next (Comes-start nodes (root - 1) (txn / ROOTS) txn inside))

pub LeadInside-comes : (nodes : List Node) (root txn at path places : ℕ) (node : Node) → LeadInside nodes → at < length nodes → Comes nodes root (txn / ROOTS) txn at path
    → node ≡ get_or nodes at node → node.txn ≢ txn → places ≡ ahead node path → 0 < places
    → (at + places < length nodes) × Comes nodes root (txn / ROOTS) txn (at + places) (path / WAYS)
LeadInside-comes nodes root txn at path places node inside within comes is other led some =
    let here = get_or-no_node nodes at node within is in
    let way : places ≡ ahead (get_or nodes at no_node) path = led ∙ ap (λ (n : Node). ahead n path) (sym here) in
    let there : at + places < length nodes = subst (λ n. at + n < length nodes) (sym way) (inside at path within) in
    (there, Comes-step nodes root (txn / ROOTS) txn at path (at + places) comes (subst (λ (n : Node). n.txn ≢ txn) (sym here) other) (ap (λ n. at + n) way) (omega arith) there)

pub IsEnd-own_value : (nodes : List Node) (root txn : ℕ) (end : End) (node : Node) → IsEnd nodes root txn end → node ≡ get_or nodes end.at node → node.txn ≡ txn
    → Some node.value ≡ node_value nodes root (txn / ROOTS) txn
IsEnd-own_value nodes root txn end node ends is own = let here = get_or-no_node nodes end.at node ends.inside is in
    sym (value-found nodes root (txn / ROOTS) txn end.at end.path ends.comes (ap (λ (n : Node). n.txn) here ∙ own) ∙ ap (λ (n : Node). Some n.value) here)

pub IsEnd-no_value : (nodes : List Node) (root txn : ℕ) (end : End) (node : Node) → IsEnd nodes root txn end → node ≡ get_or nodes end.at node → node.txn ≢ txn
    → None ≡ node_value nodes root (txn / ROOTS) txn
IsEnd-no_value nodes root txn end node ends is other = let here = get_or-no_node nodes end.at node ends.inside is in
    let apart = subst (λ (n : Node). n.txn ≢ txn) (sym here) other in
    sym (value-ended nodes root (txn / ROOTS) txn end.at end.path ends.comes apart (ends.last apart))

-- another value stands in the transaction's node
pub put-set : (nodes : List Node) (root : ℕ → ℕ) (txn : ℕ) (end : End) (node new : Node) → IsEnd nodes (root txn) txn end → node ≡ get_or nodes end.at node → node.txn ≡ txn
    → new.txn ≡ node.txn → new.ways ≡ node.ways
    → (other : ℕ) → node_value (set nodes end.at new) (root other) (other / ROOTS) other ≡ cond (txn == other) (Some new.value) (node_value nodes (root other) (other / ROOTS) other)
put-set nodes root txn end node new ends is own txns ways other =
    let here = get_or-no_node nodes end.at node ends.inside is in
    dite (ℕ_discrete txn other)
    (λ same. subst (λ n. node_value (set nodes end.at new) (root n) (n / ROOTS) n ≡ cond (txn == n) (Some new.value) (node_value nodes (root n) (n / ROOTS) n)) same
    (value-set-own nodes (root txn) (txn / ROOTS) txn end.at end.path new ends.comes (txns ∙ own)
    ∙ sym (ap (λ b. cond b (Some new.value) (node_value nodes (root txn) (txn / ROOTS) txn)) (eq-eqb txn txn refl))))
    (λ apart. value-set-other nodes (root other) (other / ROOTS) other end.at new (txns ∙ ap (λ (n : Node). n.txn) (sym here)) (ways ∙ ap (λ (n : Node). n.ways) (sym here))
    (λ same. apart (sym own ∙ sym txns ∙ same))
    ∙ sym (ap (λ b. cond b (Some new.value) (node_value nodes (root other) (other / ROOTS) other)) (ne_eqb txn other apart)))

-- a last node, to which another leads
module _ (nodes : List Node) (root : ℕ → ℕ) (txn places : ℕ) (end : End) (old new last : Node) (inside : LeadInside nodes)
    (begin : (number : ℕ) → root number ≤ length nodes) (ends : IsEnd nodes (root txn) txn end)
    (other : (get_or nodes end.at no_node).txn ≢ txn) (is : old ≡ get_or (nodes ++ last ∷ []) end.at old) (links : Links old new end.path places)
    (led : places ≡ length nodes - end.at) (none : (path : ℕ) → ahead last path ≡ 0) (own : last.txn ≡ txn) where
  within : end.at < length (nodes ++ last ∷ [])
  within = let inside = ends.inside in let more = length-append nodes (last ∷ []) in omega arith

  here : old ≡ get_or nodes end.at no_node
  here = is ∙ get_or_default (nodes ++ last ∷ []) end.at old no_node within ∙ get_or_append_left nodes (last ∷ []) no_node end.at ends.inside

  to-last : LinksLast nodes end.at new
  to-last = links-last nodes end.at end.path places new (subst (λ n. Links n new end.path places) here links) (ends.last other) led

  pub put-linked : (number : ℕ) → node_value (set (nodes ++ last ∷ []) end.at new) (root number) (number / ROOTS) number ≡ cond (txn == number)
      (Some last.value) (node_value nodes (root number) (number / ROOTS) number)
  put-linked number = dite (ℕ_discrete txn number)
      (λ same. subst (λ n. node_value (set (nodes ++ last ∷ []) end.at new) (root n) (n / ROOTS) n ≡ cond (txn == n) (Some last.value) (node_value nodes (root n) (n / ROOTS) n)) same
      (value-linked-own new last none nodes end.at (root txn) (txn / ROOTS) txn end.path ends.comes
      (λ same. other (ap (λ (n : Node). n.txn) (sym here) ∙ sym links.txn ∙ same)) (links.here end.path refl ∙ led) own
      ∙ sym (ap (λ b. cond b (Some last.value) (node_value nodes (root txn) (txn / ROOTS) txn)) (eq-eqb txn txn refl))))
      (λ apart. value-linked-other new last none number (λ same. apart (sym own ∙ same)) nodes end.at (root number) (number / ROOTS)
      (LeadInside-leads nodes inside) (begin number) ends.inside
      (links.txn ∙ ap (λ (n : Node). n.txn) here) (links.value ∙ ap (λ (n : Node). n.value) here) to-last
      ∙ sym (ap (λ b. cond b (Some last.value) (node_value nodes (root number) (number / ROOTS) number)) (ne_eqb txn number apart)))

-- a last node, at which searches begin that began nowhere
module _ (nodes : List Node) (old new : Row) (txn : ℕ) (last : Node) (inside : LeadInside nodes) (begin : BeginInside old nodes)
    (nowhere : root_of old txn ≡ 0) (puts : PutsNumber old new (txn % ROOTS) (length nodes + 1))
    (none : (path : ℕ) → ahead last path ≡ 0) (own : last.txn ≡ txn) (number : ℕ) where
  abbrev old_value : Option ℕ
  old_value = node_value nodes (root_of old number) (number / ROOTS) number

  abbrev new_value : Option ℕ
  new_value = node_value (nodes ++ last ∷ []) (root_of new number) (number / ROOTS) number

  root-put : (same : Bool) → (txn % ROOTS == number % ROOTS) ≡ same
      → root_of new number ≡ cond same (length nodes + 1) (root_of old number)
  root-put same is = puts (number % ROOTS) ∙ ap (λ b. cond b (length nodes + 1) (root_of old number)) is

  -- a search that began nowhere
  put-root-same : txn % ROOTS ≡ number % ROOTS → new_value ≡ cond (txn == number) (Some last.value) old_value
  put-root-same same =
      let from : root_of old number ≡ 0 = ap (number_at old) (sym same) ∙ nowhere in
      ap (λ places. node_value (nodes ++ last ∷ []) places (number / ROOTS) number) (root-put _ (eq-eqb _ _ same) ∙ omega arith)
      ∙ value-last nodes last (number / ROOTS) number none
      ∙ ap (λ n. cond (n == number) (Some last.value) None) own
      ∙ ap (λ rest. cond (txn == number) (Some last.value) rest)
      (sym (ap (λ places. node_value nodes places (number / ROOTS) number) from ∙ value-nowhere nodes (number / ROOTS) number))

  -- another
  put-root-apart : txn % ROOTS ≢ number % ROOTS → new_value ≡ cond (txn == number) (Some last.value) old_value
  put-root-apart apart =
      ap (λ places. node_value (nodes ++ last ∷ []) places (number / ROOTS) number) (root-put _ (ne_eqb _ _ apart))
      ∙ value-more nodes last (root_of old number) (number / ROOTS) number (LeadInside-leads nodes inside) (begin number)
      ∙ sym (ap (λ b. cond b (Some last.value) old_value) (ne_eqb txn number (λ same. apart (ap (λ n. n % ROOTS) same))))

  pub put-root : new_value ≡ cond (txn == number) (Some last.value) old_value
  put-root = dite (ℕ_discrete (txn % ROOTS) (number % ROOTS)) put-root-same put-root-apart
