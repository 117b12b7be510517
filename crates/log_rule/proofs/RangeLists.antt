-- Ranges and parts that follow one another: bounds, and what stays where one of them changes.
use Rattle.std.proofs.Common.{◌≡◌, ◌⊎◌, inl, inr, ⊎_elim, ℕ, ◌+◌, ◌<◌, ◌≤◌, cond, Bool, true, false, List, [], ◌∷◌, ◌++◌, length, sym, refl, ap, ◌∙◌, subst, le_refl, arith, append_assoc}
use Rattle.std.specs.List.{AllByRecursion}
use Rattle.log_rule.specs.declared.view.Entry.{Entry}
use Rattle.log_rule.specs.Log.{Part, LogRange, inside, unreleased_in, filled_inside, filled_in, Tiles, Laid}

pub tiles-le : (most from to : ℕ) (ranges : List LogRange) → Tiles most from ranges to → from ≤ to
tiles-le most from to [] t = omega arith
tiles-le most from to (r ∷ rs) t = omega (arith, tiles-le most (from + r.size) to rs t.3)

pub tiles-push : (most from to end : ℕ) (ranges : List LogRange) (r : LogRange) → Tiles most from ranges to → r.base ≡ to → 1 ≤ r.size → r.size ≤ most
    → to + r.size ≡ end → Tiles most from (ranges ++ r ∷ []) end
tiles-push most from to end [] r t base least few is = (base ∙ sym t, least, few, ap (λ z. z + r.size) t ∙ is)
tiles-push most from to end (q ∷ qs) r t base least few is = (t.0, t.1, t.2, tiles-push most (from + q.size) to end qs r t.3 base least few is)

pub tiles-split : (most from to : ℕ) (ls rs : List LogRange) (r : LogRange) → Tiles most from (ls ++ r ∷ rs) to
    → Tiles most from ls r.base × (1 ≤ r.size) × (r.size ≤ most) × Tiles most (r.base + r.size) rs to
tiles-split most from to [] rs r t = (sym t.0, t.1, t.2, subst (λ z. Tiles most (z + r.size) rs to) (sym t.0) t.3)
tiles-split most from to (l ∷ ls) rs r t = let h = tiles-split most (from + l.size) to ls rs r t.3 in ((t.0, t.1, t.2, h.0), h.1, h.2, h.3)

-- each range of a tiling lies between its ends
pub tiles-within : (P Q : LogRange → Type 0) (most from to : ℕ) (ranges : List LogRange) → Tiles most from ranges to → AllByRecursion P ranges
    → ((q : LogRange) → P q → 1 ≤ q.size → from ≤ q.base → q.base + q.size ≤ to → Q q) → AllByRecursion Q ranges
tiles-within P Q most from to [] t all f = tt
tiles-within P Q most from to (r ∷ rs) t all f = (
  f r all.0 t.1 (omega (arith, t.0)) (omega (arith, t.0, tiles-le most (from + r.size) to rs t.3)),
  tiles-within P Q most (from + r.size) to rs t.3 all.1 (λ q p least lo hi. f q p least (omega (arith, t.0, t.1, lo)) hi),
)

-- a range is exchanged for another of its base and size
pub tiles-same_base_size : (most from to : ℕ) (ls rs : List LogRange) (r r' : LogRange) → r'.base ≡ r.base → r'.size ≡ r.size → Tiles most from (ls ++ r ∷ rs) to
    → Tiles most from (ls ++ r' ∷ rs) to
tiles-same_base_size most from to [] rs r r' base size t =
    (base ∙ t.0, subst (λ z. 1 ≤ z) (sym size) t.1, subst (λ z. z ≤ most) (sym size) t.2, subst (λ z. Tiles most (from + z) rs to) (sym size) t.3)
tiles-same_base_size most from to (q ∷ ls) rs r r' base size t = (t.0, t.1, t.2, tiles-same_base_size most (from + q.size) to ls rs r r' base size t.3)

-- the two ranges have no unit in common
abbrev pub RangesApart : LogRange → LogRange → Type 0
RangesApart q r = (q.base + q.size ≤ r.base) ⊎ (r.base + r.size ≤ q.base)

-- what holds of the one that changes, and of the others
pub tiles-all_replaced : (P Q : LogRange → Type 0) (most from to : ℕ) (ls rs : List LogRange) (r r' : LogRange) → Tiles most from (ls ++ r ∷ rs) to
    → AllByRecursion P (ls ++ r ∷ rs) → Q r'
    → ((q : LogRange) → P q → 1 ≤ q.size → from ≤ q.base → q.base + q.size ≤ to → RangesApart q r → Q q)
    → AllByRecursion Q (ls ++ r' ∷ rs)
tiles-all_replaced P Q most from to [] rs r r' t all now others = (
  now,
  tiles-within P Q most (from + r.size) to rs t.3 all.1 (λ q p least lo hi. others q p least (omega (arith, t.1, lo)) hi (inr (omega (arith, t.0, lo)))),
)
tiles-all_replaced P Q most from to (l ∷ ls) rs r r' t all now others =
    let h = tiles-split most (from + l.size) to ls rs r t.3 in
    let before = tiles-le most (from + l.size) r.base ls h.0 in
    let behind = tiles-le most (r.base + r.size) to rs h.3 in (
      others l all.0 t.1 (omega (arith, t.0)) (omega (arith, t.0, before, behind, h.1)) (inl (omega (arith, t.0, before))),
      tiles-all_replaced P Q most (from + l.size) to ls rs r r' t.3 all.1 now
          (λ q p least lo hi apart. others q p least (omega (arith, t.0, t.1, lo)) hi apart),
    )

-- three lists, of which the last is in two
pub append-assoc_four : (fs es ls rs : List LogRange) → fs ++ (es ++ (ls ++ rs)) ≡ (fs ++ (es ++ ls)) ++ rs
append-assoc_four fs es ls rs = ap (λ l. fs ++ l) (sym (append_assoc es ls rs)) ∙ sym (append_assoc fs (es ++ ls) rs)

pub tiles-append : (most from mid to : ℕ) (xs ys : List LogRange) → Tiles most from xs mid → Tiles most mid ys to → Tiles most from (xs ++ ys) to
tiles-append most from mid to [] ys t u = subst (λ z. Tiles most z ys to) (sym t) u
tiles-append most from mid to (x ∷ xs) ys t u = (t.0, t.1, t.2, tiles-append most (from + x.size) mid to xs ys t.3 u)

pub laid-le : (from to : ℕ) (parts : List Part) → Laid from parts to → from ≤ to
laid-le from to [] l = omega arith
laid-le from to (p ∷ ps) l = omega (arith, laid-le (from + p.entry.size) to ps l.2)

pub laid-append : (from mid to : ℕ) (xs ys : List Part) → Laid from xs mid → Laid mid ys to → Laid from (xs ++ ys) to
laid-append from mid to [] ys l k = subst (λ z. Laid z ys to) (sym l) k
laid-append from mid to (x ∷ xs) ys l k = (l.0, l.1, laid-append (from + x.entry.size) mid to xs ys l.2 k)

pub laid-split : (from to : ℕ) (ls rs : List Part) (p : Part) → Laid from (ls ++ p ∷ rs) to
    → Laid from ls p.entry.start × (1 ≤ p.entry.size) × Laid (p.entry.start + p.entry.size) rs to
laid-split from to [] rs p l = (sym l.0, l.1, subst (λ z. Laid (z + p.entry.size) rs to) (sym l.0) l.2)
laid-split from to (q ∷ ls) rs p l = let h = laid-split (from + q.entry.size) to ls rs p l.2 in ((l.0, l.1, h.0), h.1, h.2)

-- a part is exchanged for another of its start and size
pub laid-same_start_size : (from to : ℕ) (ls rs : List Part) (p p' : Part) → p'.entry.start ≡ p.entry.start → p'.entry.size ≡ p.entry.size
    → Laid from (ls ++ p ∷ rs) to → Laid from (ls ++ p' ∷ rs) to
laid-same_start_size from to [] rs p p' start size l = (start ∙ l.0, subst (λ z. 1 ≤ z) (sym size) l.1, subst (λ z. Laid (from + z) rs to) (sym size) l.2)
laid-same_start_size from to (q ∷ ls) rs p p' start size l = (l.0, l.1, laid-same_start_size (from + q.entry.size) to ls rs p p' start size l.2)

-- the two parts have no unit in common
abbrev pub Apart : Part → Part → Type 0
Apart p q = (p.entry.start + p.entry.size ≤ q.entry.start) ⊎ (q.entry.start + q.entry.size ≤ p.entry.start)

laid-within : (P Q : Part → Type 0) (from to : ℕ) (parts : List Part) → Laid from parts to → AllByRecursion P parts
    → ((q : Part) → P q → 1 ≤ q.entry.size → from ≤ q.entry.start → q.entry.start + q.entry.size ≤ to → Q q) → AllByRecursion Q parts
laid-within P Q from to [] l all f = tt
laid-within P Q from to (p ∷ ps) l all f = (
  f p all.0 l.1 (omega (arith, l.0)) (omega (arith, l.0, laid-le (from + p.entry.size) to ps l.2)),
  laid-within P Q (from + p.entry.size) to ps l.2 all.1 (λ q h least lo hi. f q h least (omega (arith, l.1, lo)) hi),
)

-- what holds of the one that changes, and of the others, which lie apart from it
pub laid-all_replaced : (P Q : Part → Type 0) (from to : ℕ) (ls rs : List Part) (p p' : Part) → Laid from (ls ++ p ∷ rs) to
    → AllByRecursion P (ls ++ p ∷ rs) → Q p'
    → ((q : Part) → P q → 1 ≤ q.entry.size → from ≤ q.entry.start → q.entry.start + q.entry.size ≤ to → Apart q p → Q q)
    → AllByRecursion Q (ls ++ p' ∷ rs)
laid-all_replaced P Q from to [] rs p p' l all now others = (
  now,
  laid-within P Q (from + p.entry.size) to rs l.2 all.1
      (λ q h least lo hi. others q h least (omega (arith, l.1, lo)) hi (inr (omega (arith, l.0, lo)))),
)
laid-all_replaced P Q from to (q ∷ ls) rs p p' l all now others =
    let h = laid-split (from + q.entry.size) to ls rs p l.2 in
    let before = laid-le (from + q.entry.size) p.entry.start ls h.0 in
    let behind = laid-le (p.entry.start + p.entry.size) to rs h.2 in (
      others q all.0 l.1 (omega (arith, l.0)) (omega (arith, l.0, before, behind, h.1)) (inl (omega (arith, l.0, before))),
      laid-all_replaced P Q (from + q.entry.size) to ls rs p p' l.2 all.1 now
          (λ x k least lo hi apart. others x k least (omega (arith, l.0, l.1, lo)) hi apart),
    )

pub inside-starting_within : (base size : ℕ) (entry : Entry) → base ≤ entry.start → entry.start < base + size → inside base size entry ≡ entry.size
inside-starting_within base size entry lo hi = grind (arith)

pub inside-starting_elsewhere : (base size : ℕ) (entry : Entry) → (entry.start < base) ⊎ (base + size ≤ entry.start) → inside base size entry ≡ 0
inside-starting_elsewhere base size entry h = grind (arith)

pub unreleased_in-append : (base size : ℕ) (xs ys : List Part)
    → unreleased_in base size (xs ++ ys) ≡ unreleased_in base size xs + unreleased_in base size ys
unreleased_in-append base size [] ys = omega arith
unreleased_in-append base size (x ∷ xs) ys = omega (arith, unreleased_in-append base size xs ys)

-- one part is exchanged for another
pub unreleased_in-mid_replaced : (base size : ℕ) (ls rs : List Part) (p p' : Part)
    → unreleased_in base size (ls ++ p' ∷ rs) + cond p.released 0 (inside base size p.entry) ≡ unreleased_in base size
    (ls ++ p ∷ rs) + cond p'.released 0 (inside base size p'.entry)
unreleased_in-mid_replaced base size [] rs p p' = omega arith
unreleased_in-mid_replaced base size (l ∷ ls) rs p p' = omega (arith, unreleased_in-mid_replaced base size ls rs p p')

-- parts that lie elsewhere
pub unreleased_in-none_outside : (from to base size : ℕ) (parts : List Part) → Laid from parts to → (to ≤ base) ⊎ (base + size ≤ from)
    → unreleased_in base size parts ≡ 0
unreleased_in-none_outside from to base size [] l h = refl
unreleased_in-none_outside from to base size (p ∷ ps) l h =
    let end = laid-le (from + p.entry.size) to ps l.2 in
    let none : inside base size p.entry ≡ 0 =
    inside-starting_elsewhere base size p.entry (⊎_elim (λ low. inl (omega (arith, l.0, l.1, end, low))) (λ high. inr (omega (arith, l.0, high))) h) in
    let first : cond p.released 0 (inside base size p.entry) ≡ 0 = by_flag p.released none in
    omega (arith, unreleased_in-none_outside (from + p.entry.size) to base size ps l.2 (⊎_elim (λ low. inl low) (λ high. inr (omega (arith, high))) h))
  where
    by_flag : (b : Bool) → inside base size p.entry ≡ 0 → cond b 0 (inside base size p.entry) ≡ 0
    by_flag true none = refl
    by_flag false none = none

-- where nothing remains, each part that starts there is released
pub unreleased_in_none-all_released : (from to base size : ℕ) (parts : List Part) → Laid from parts to → unreleased_in base size parts ≡ 0
    → AllByRecursion (λ (p : Part). base ≤ p.entry.start → p.entry.start < base + size → p.released ≡ true) parts
unreleased_in_none-all_released from to base size [] l none = tt
unreleased_in_none-all_released from to base size (p ∷ ps) l none =
    ((λ lo hi. by_flag p.released refl (inside-starting_within base size p.entry lo hi)), unreleased_in_none-all_released (from + p.entry.size) to base size ps l.2 (omega arith))
  where
    by_flag : (b : Bool) → p.released ≡ b → inside base size p.entry ≡ p.entry.size → p.released ≡ true
    by_flag true is here = is
    by_flag false is here = let counted : cond p.released 0 (inside base size p.entry) ≡ inside base size p.entry =
        ap (λ b. cond b 0 (inside base size p.entry)) is in absurd (omega (arith, l.1))

-- the units that are filled are counted where the entry starts, and nowhere else
pub filled_inside-starting_within : (base size : ℕ) (entry : Entry) → base ≤ entry.start → entry.start < base + size → filled_inside base size entry ≡ length entry.units
filled_inside-starting_within base size entry lo hi = grind (arith)

pub filled_inside-starting_elsewhere : (base size : ℕ) (entry : Entry) → (entry.start < base) ⊎ (base + size ≤ entry.start) → filled_inside base size entry ≡ 0
filled_inside-starting_elsewhere base size entry h = grind (arith)

pub filled_in-append : (base size : ℕ) (xs ys : List Part) → filled_in base size (xs ++ ys) ≡ filled_in base size xs + filled_in base size ys
filled_in-append base size [] ys = omega arith
filled_in-append base size (x ∷ xs) ys = omega (arith, filled_in-append base size xs ys)

pub filled_in-mid_replaced : (base size : ℕ) (ls rs : List Part) (p p' : Part)
    → filled_in base size (ls ++ p' ∷ rs) + filled_inside base size p.entry ≡ filled_in base size (ls ++ p ∷ rs) + filled_inside base size p'.entry
filled_in-mid_replaced base size [] rs p p' = omega arith
filled_in-mid_replaced base size (l ∷ ls) rs p p' = omega (arith, filled_in-mid_replaced base size ls rs p p')

pub filled_in-apart : (from to base size : ℕ) (parts : List Part) → Laid from parts to → (to ≤ base) ⊎ (base + size ≤ from)
    → filled_in base size parts ≡ 0
filled_in-apart from to base size [] l h = refl
filled_in-apart from to base size (p ∷ ps) l h =
    let end = laid-le (from + p.entry.size) to ps l.2 in
    let none : filled_inside base size p.entry ≡ 0 =
    filled_inside-starting_elsewhere base size p.entry (⊎_elim (λ low. inl (omega (arith, l.0, l.1, end, low))) (λ high. inr (omega (arith, l.0, high))) h) in
    omega (arith, none, filled_in-apart (from + p.entry.size) to base size ps l.2 (⊎_elim (λ low. inl low) (λ high. inr (omega (arith, high))) h))

-- in the range of one part, its units alone are counted
pub filled_in-range_of_part : (from to : ℕ) (ls rs : List Part) (p : Part) → Laid from (ls ++ p ∷ rs) to
    → filled_in p.entry.start p.entry.size (ls ++ p ∷ rs) ≡ length p.entry.units
filled_in-range_of_part from to ls rs p l =
    let h = laid-split from to ls rs p l in
    let before = filled_in-apart from p.entry.start p.entry.start p.entry.size ls h.0 (inl (le_refl _)) in
    let behind = filled_in-apart (p.entry.start + p.entry.size) to p.entry.start p.entry.size rs h.2 (inr (le_refl _)) in
    let here = filled_inside-starting_within p.entry.start p.entry.size p.entry (le_refl _) (omega (arith, h.1)) in
    omega (arith, filled_in-append p.entry.start p.entry.size ls (p ∷ rs), before, behind, here)
