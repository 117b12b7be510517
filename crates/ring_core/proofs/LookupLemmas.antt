-- What is found at an index, and where ranges end.
use Rattle.std.proofs.Common.{◌≡◌, ◌≢◌, inl, inr, ⊎_elim, ℕ, ◌+◌, ◌≤◌, nat_lt, ◌||◌, cond, not, true≢false, Bool, true, false, List, [], ◌∷◌, length}
use Rattle.std.proofs.Common.{set, map, Some, None, zero, suc, refl, sym, ap, ap₂, ◌∙◌, subst, arith, eq-eqb, eqb-true, ltb-false}
use Rattle.std.specs.List.{AllByRecursion, find, position, position_or_len, slice_get, list_any}
use Rattle.std.specs.Option.{option_and_then}
use Rattle.std.proofs.lemmas.List.Folds.{find_at}
use Rattle.std.proofs.lemmas.Option.{slice_get_past}
use Rattle.lsn_space.specs.Tiling.{IsTiling, IsTilingBoundary}
use Rattle.lsn_space.proofs.TilingLemmas.{all-weaken, tiling-within}
use Rattle.ring_core.specs.RingLog.{base_of, size_of, Reservation}
use Rattle.ring_core.specs.Rows.{is_end}
use Rattle.ring_core.proofs.RangeLemmas.{IsAllowed}

module _ {A : Type 0} where
  -- `find` gives what stands where `position` says
  pub find-position : (p : A → Bool) (xs : List A) → find p xs ≡ option_and_then (slice_get xs) (position p xs)
  find-position p xs = find_at p xs ∙ by_test (nat_lt (position_or_len p xs) (length xs)) refl
    where
      by_test : (b : Bool) → nat_lt (position_or_len p xs) (length xs) ≡ b → slice_get xs (position_or_len p xs) ≡ option_and_then (slice_get xs) (cond b (Some (position_or_len p xs)) None)
      by_test true is = refl
      by_test false is = slice_get_past xs (position_or_len p xs) (ltb-false _ _ is)

  -- where there is no position, none passes
  none-passes : (p : A → Bool) (xs : List A) → length xs ≤ position_or_len p xs → AllByRecursion (λ x. p x ≡ false) xs
  none-passes p [] long = tt
  none-passes p (x ∷ xs) long = by_test (p x) refl long (λ more. none-passes p xs more)
    where
      by_test : (b : Bool) → p x ≡ b → suc (length xs) ≤ cond (not b) (1 + position_or_len p xs) 0 → (length xs ≤ position_or_len p xs
          → AllByRecursion (λ y. p y ≡ false) xs) → AllByRecursion (λ y. p y ≡ false) (x ∷ xs)
      by_test true is long rest = absurd (omega (arith, long))
      by_test false is long rest = (is, rest (omega (arith, long)))

  pub position-none : (p : A → Bool) (xs : List A) → position p xs ≡ None → AllByRecursion (λ x. p x ≡ false) xs
  position-none p xs is = none-passes p xs (by_test (nat_lt (position_or_len p xs) (length xs)) refl is)
    where
      by_test : (b : Bool) → nat_lt (position_or_len p xs) (length xs) ≡ b → cond b (Some (position_or_len p xs)) None ≡ None → length xs ≤ position_or_len p xs
      by_test true test is = absurd (cc)
      by_test false test is = ltb-false _ _ test

  pub slice_get-all : (P : A → Type 0) (xs : List A) (i : ℕ) (x : A) → slice_get xs i ≡ Some x → AllByRecursion P xs → P x
  slice_get-all P [] i x is all = absurd (cc)
  slice_get-all P (y ∷ ys) zero x is all = let same : y ≡ x = cc in subst P same all.0
  slice_get-all P (y ∷ ys) (suc i) x is all = slice_get-all P ys i x is all.1

  map-others : (P : A → Type 0) (f : A → A) (xs : List A) → ((x : A) → P x → f x ≡ x) → AllByRecursion P xs → map f xs ≡ xs
  map-others P f [] same all = refl
  map-others P f (x ∷ xs) same all = ap₂ (λ y ys. y ∷ ys) (same x all.0) (map-others P f xs same all.1)

-- a change of the one reservation at a base is a write at its index
pub map_at_base-set : (from to most : ℕ) (f : Reservation → Reservation) (rs : List Reservation) (i : ℕ) (r : Reservation)
    → IsTiling base_of size_of from rs to → AllByRecursion (IsAllowed most) rs → slice_get rs i ≡ Some r → ((q : Reservation) → q.base ≢ r.base → f q
    ≡ q) → map f rs ≡ set rs i (f r)
map_at_base-set from to most f [] i r tiles sizes is others = absurd (cc)
map_at_base-set from to most f (q ∷ rs) zero r tiles sizes is others =
    let same : q ≡ r = cc in
    ap₂ (λ y ys. y ∷ ys) (ap f same) (map-others (λ x. from + q.size ≤ x.base) f rs
    (λ x behind. others x (λ at. let bases = ap (λ (z : Reservation). z.base) same in omega (arith, at, behind, bases, tiles.0, sizes.0.0)))
    (all-weaken _ _ rs (λ x within. within.0) (tiling-within base_of size_of (from + q.size) rs to tiles.1)))
map_at_base-set from to most f (q ∷ rs) (suc i) r tiles sizes is others =
    let within = slice_get-all _ rs i r is (tiling-within base_of size_of (from + q.size) rs to tiles.1) in
    ap₂ (λ y ys. y ∷ ys) (others q (λ at. omega (arith, at, within.0, tiles.0, sizes.0.0))) (map_at_base-set (from + q.size) to most f rs i r tiles.1 sizes.1 is others)

-- a boundary is the start or an end
pub is_end-boundary : (from to : ℕ) (rs : List Reservation) (place : ℕ) → IsTiling base_of size_of from rs to → list_any (is_end place) rs ≡ true → IsTilingBoundary size_of from rs place
is_end-boundary from to [] place tiles is = absurd (cc)
is_end-boundary from to (r ∷ rs) place tiles is = by_test (is_end place r) refl is (λ later. is_end-boundary (from + r.size) to rs place tiles.1 later)
  where
    start : (from : ℕ) (rs : List Reservation) → place ≡ from → IsTilingBoundary size_of from rs place
    start from [] same = same
    start from (q ∷ qs) same = inl same

    by_test : (b : Bool) → is_end place r ≡ b → (b || list_any (is_end place) rs) ≡ true → (list_any (is_end place) rs ≡ true
        → IsTilingBoundary size_of (from + r.size) rs place) → IsTilingBoundary size_of from (r ∷ rs) place
    by_test true ends is rest = let at = eqb-true (r.base + r.size) place ends in inr (start (from + r.size) rs (omega (arith, at, tiles.0)))
    by_test false ends is rest = inr (rest is)

pub boundary-is_end : (from to : ℕ) (rs : List Reservation) (place : ℕ) → IsTiling base_of size_of from rs to → IsTilingBoundary size_of from rs place
    → place ≢ from → list_any (is_end place) rs ≡ true
boundary-is_end from to [] place tiles is differs = absurd (differs is)
boundary-is_end from to (r ∷ rs) place tiles is differs = ⊎_elim (λ here. absurd (differs here))
    (λ rest. by_test (is_end place r) refl (λ not_here. boundary-is_end (from + r.size) to rs place tiles.1 rest (λ same. not_here (omega (arith, same, tiles.0))))) is
  where
    by_test : (b : Bool) → is_end place r ≡ b → (r.base + r.size ≢ place → list_any (is_end place) rs ≡ true) → (b || list_any (is_end place) rs) ≡ true
    by_test true ends rest = refl
    by_test false ends rest = rest (λ same. let yes = eq-eqb (r.base + r.size) place same in true≢false (sym yes ∙ ends))
