-- Chains of Updates.
use Rattle.std.proofs.Common.{◌≡◌, ◌<◌, ◌≤◌, ℕ, ◌+◌, List, [], ◌∷◌, ◌++◌, length, refl, ap, ◌∙◌, sym, subst, arith, append_assoc, length-append}
use Rattle.std.proofs.lemmas.List.{get_or_append_left, get_or_at, append-nil}
use Rattle.lock_core.specs.declared.update.Change.{Change}
use Rattle.lock_core.specs.declared.update_links.UpdateLink.{UpdateLink}
use Rattle.lock_core.specs.Tests.{IsPaired}
use Rattle.lock_core.specs.KeptLedger.{no_link, link_at, HasChain}

-- a place has one chain
pub chain-unique : (links : List UpdateLink) (place : ℕ) (xs ys : List Change) → HasChain links place xs → HasChain links place ys → xs ≡ ys
chain-unique links place [] [] x y = refl
chain-unique links place [] (b ∷ ys) x y = absurd (let some = y.0 in omega arith)
chain-unique links place (a ∷ xs) [] x y = absurd (let some = x.0 in omega arith)
chain-unique links place (a ∷ xs) (b ∷ ys) x y =
    let rest = chain-unique links (link_at links place).older xs ys x.4 y.4 in λ i. (sym x.2 ∙ y.2) i ∷ rest i

pub chain-append : (links more : List UpdateLink) (place : ℕ) (changes : List Change) → HasChain links place changes → HasChain (links ++ more) place changes
chain-append links more place [] chain = chain
chain-append links more place (change ∷ changes) chain =
    let longer = length-append links more in let inside = chain.1 in
    let here = subst (λ (link : UpdateLink). (link.change ≡ change) × (link.count ≡ length changes + 1) × HasChain (links ++ more) link.older changes)
    (sym (get_or_append_left links more no_link place inside)) (chain.2, chain.3, chain-append links more (link_at links place).older changes chain.4) in
    (chain.0, omega arith, here.0, here.1, here.2)

-- one more Update
pub chain-push : (links : List UpdateLink) (link : UpdateLink) (changes : List Change) → 0 < length links → link.count ≡ length changes + 1 → HasChain links link.older changes
    → HasChain (links ++ link ∷ []) (length links) (link.change ∷ changes)
chain-push links link changes some count chain =
    let longer = length-append links (link ∷ []) in
    let here = subst (λ (found : UpdateLink). (found.change ≡ link.change) × (found.count ≡ length changes + 1) × HasChain (links ++ link ∷ []) found.older changes)
    (sym (get_or_at links link [] no_link (length links) refl)) (refl, count, chain-append links (link ∷ []) link.older changes chain) in
    (some, omega arith, here.0, here.1, here.2)

module _ (links : List UpdateLink) (first : link_at links 0 ≡ no_link) where
  -- the newest Update counts the chain
  pub chain-count : (place : ℕ) (changes : List Change) → HasChain links place changes → (link_at links place).count ≡ length changes
  chain-count place [] chain = ap (λ p. (link_at links p).count) chain ∙ ap (λ (link : UpdateLink). link.count) first
  chain-count place (change ∷ changes) chain = let count = chain.3 in omega arith

  at-none : (place : ℕ) → place ≡ 0 → (link_at links place).change ≡ no_link.change
  at-none place none = ap (λ p. (link_at links p).change) none ∙ ap (λ (link : UpdateLink). link.change) first

  -- a change is paired with a chain exactly where it is with the newest of it
  pub paired_newest-paired_chain : (place : ℕ) (changes : List Change) (change : Change) → HasChain links place changes
      → IsPaired ((link_at links place).change ∷ []) change → IsPaired changes change
  paired_newest-paired_chain place [] change chain paired = subst (λ (newest : Change). IsPaired (newest ∷ []) change) (at-none place chain) paired
  paired_newest-paired_chain place (newest ∷ changes) change chain paired = subst (λ (c : Change). IsPaired (c ∷ []) change) chain.2 paired

  pub paired_chain-paired_newest : (place : ℕ) (changes : List Change) (change : Change) → HasChain links place changes
      → IsPaired changes change → IsPaired ((link_at links place).change ∷ []) change
  paired_chain-paired_newest place [] change chain paired = subst (λ (newest : Change). IsPaired (newest ∷ []) change) (sym (at-none place chain)) paired
  paired_chain-paired_newest place (newest ∷ changes) change chain paired = subst (λ (c : Change). IsPaired (c ∷ []) change) (sym chain.2) paired

pub chain-inside : (links : List UpdateLink) (place : ℕ) (changes : List Change) → 0 < length links → HasChain links place changes → place < length links
chain-inside links place [] some chain = omega arith
chain-inside links place (change ∷ changes) some chain = chain.1

-- the newest changes of a chain, and where the others stand
pub record Collects (links : List UpdateLink) (place : ℕ) (collected : List Change) (at : ℕ) : Type 0 where
  pub rest : List Change
  pub chain : HasChain links at rest
  pub whole : HasChain links place (collected ++ rest)
  pub few : length collected + length rest ≤ 16

pub collects-inside_and_room : (links : List UpdateLink) (place : ℕ) (collected : List Change) (at : ℕ) → 0 < at → Collects links place collected at
    → (at < length links) × (length collected < 16)
collects-inside_and_room links place collected at some collects = by_rest collects.rest collects.chain collects.few
  where
    by_rest : (rest : List Change) → HasChain links at rest → length collected + length rest ≤ 16 → (at < length links) × (length collected < 16)
    by_rest [] chain few = absurd (omega arith)
    by_rest (change ∷ rest) chain few = (chain.1, omega arith)

pub collects-more : (links : List UpdateLink) (place : ℕ) (collected : List Change) (at : ℕ) (link : UpdateLink) → 0 < at → link ≡ link_at links at
    → Collects links place collected at → Collects links place (collected ++ link.change ∷ []) link.older
collects-more links place collected at link some is collects = by_rest collects.rest collects.chain collects.whole collects.few
  where
    by_rest : (rest : List Change) → HasChain links at rest → HasChain links place (collected ++ rest) → length collected + length rest ≤ 16
        → Collects links place (collected ++ link.change ∷ []) link.older
    by_rest [] chain whole few = absurd (omega arith)
    by_rest (change ∷ rest) chain whole few =
        let same : link.change ≡ change = ap (λ (l : UpdateLink). l.change) is ∙ chain.2 in
        let longer = length-append collected (link.change ∷ []) in
        record {
          rest = rest;
          chain = subst (λ p. HasChain links p rest) (sym (ap (λ (l : UpdateLink). l.older) is)) chain.4;
          whole = subst (HasChain links place) (ap (λ c. collected ++ c ∷ rest) (sym same) ∙ sym (append_assoc collected (link.change ∷ []) rest)) whole;
          few = omega arith;
        }

pub collects_to_zero-has_chain : (links : List UpdateLink) (place : ℕ) (collected : List Change) (at : ℕ) → at ≡ 0 → Collects links place collected at → HasChain links place collected
collects_to_zero-has_chain links place collected at none collects = by_rest collects.rest collects.chain collects.whole
  where
    by_rest : (rest : List Change) → HasChain links at rest → HasChain links place (collected ++ rest) → HasChain links place collected
    by_rest [] chain whole = subst (HasChain links place) (append-nil collected) whole
    by_rest (change ∷ rest) chain whole = absurd (let some = chain.0 in omega arith)
