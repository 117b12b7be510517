-- Ranges that follow one another: one more of them, the one at a base, and the places between them.
use Rattle.std.proofs.Common.{◌≡◌, ◌⊎◌, inl, inr, ⊎_elim, ℕ, ◌+◌, ◌≤◌, ◌==◌, cond, Bool, true, false, List, [], ◌∷◌, ◌++◌, map, Some, refl, sym, ap, ◌∙◌, subst, arith, eq-eqb}
use Rattle.std.specs.List.{AllByRecursion, find}
use Rattle.std.specs.Option.{option_map}
use Rattle.lsn_space.specs.Tiling.{IsTiling, IsTilingBoundary}

module _ {A : Type 0} where
  -- the first is found, or the search goes on
  found-cases : (p : A → Bool) (x : A) (xs : List A) (r : A) → find p (x ∷ xs) ≡ Some r → ((p x ≡ true) × (x ≡ r)) ⊎ ((p x ≡ false) × (find p xs ≡ Some r))
  found-cases p x xs r is = by_test (p x) refl is
    where
      by_test : (b : Bool) → p x ≡ b → cond b (Some x) (find p xs) ≡ Some r → ((p x ≡ true) × (x ≡ r)) ⊎ ((p x ≡ false) × (find p xs ≡ Some r))
      by_test true passes is = inl (passes, cc)
      by_test false fails is = inr (fails, is)

  -- the one that is found passes the test
  pub found-passes : (p : A → Bool) (xs : List A) (r : A) → find p xs ≡ Some r → p r ≡ true
  found-passes p [] r is = absurd (cc)
  found-passes p (x ∷ xs) r is = ⊎_elim (λ here. ap p (sym here.1) ∙ here.0) (λ later. found-passes p xs r later.1) (found-cases p x xs r is)

  -- what holds of each element holds of the one that is found
  pub all-found : (P : A → Type 0) (p : A → Bool) (xs : List A) (r : A) → find p xs ≡ Some r → AllByRecursion P xs → P r
  all-found P p [] r is all = absurd (cc)
  all-found P p (x ∷ xs) r is all = ⊎_elim (λ here. subst P here.1 all.0) (λ later. all-found P p xs r later.1 all.1) (found-cases p x xs r is)

  -- what is found is found in a longer list too
  pub find-append_found : (p : A → Bool) (xs ys : List A) (r : A) → find p xs ≡ Some r → find p (xs ++ ys) ≡ Some r
  find-append_found p [] ys r is = absurd (cc)
  find-append_found p (x ∷ xs) ys r is = ⊎_elim
      (λ here. ap (λ b. cond b (Some x) (find p (xs ++ ys))) here.0 ∙ ap Some here.1)
      (λ later. ap (λ b. cond b (Some x) (find p (xs ++ ys))) later.0 ∙ find-append_found p xs ys r later.1)
      (found-cases p x xs r is)

  -- where none passes, the search goes on behind them
  pub find-append_unfound : (p : A → Bool) (xs ys : List A) → AllByRecursion (λ x. p x ≡ false) xs → find p (xs ++ ys) ≡ find p ys
  find-append_unfound p [] ys all = refl
  find-append_unfound p (x ∷ xs) ys all = ap (λ b. cond b (Some x) (find p (xs ++ ys))) all.0 ∙ find-append_unfound p xs ys all.1

  -- a change that the test does not see
  pub find-map : (p : A → Bool) (f : A → A) (xs : List A) → ((x : A) → p (f x) ≡ p x) → find p (map f xs) ≡ option_map f (find p xs)
  find-map p f [] same = refl
  find-map p f (x ∷ xs) same = ap (λ b. cond b (Some (f x)) (find p (map f xs))) (same x) ∙ by_test (p x) (find-map p f xs same)
    where
      by_test : (b : Bool) → find p (map f xs) ≡ option_map f (find p xs) → cond b (Some (f x)) (find p (map f xs)) ≡ option_map f (cond b (Some x) (find p xs))
      by_test true rest = refl
      by_test false rest = rest

  pub all-weaken : (P Q : A → Type 0) (xs : List A) → ((x : A) → P x → Q x) → AllByRecursion P xs → AllByRecursion Q xs
  all-weaken P Q [] weaker all = tt
  all-weaken P Q (x ∷ xs) weaker all = (weaker x all.0, all-weaken P Q xs weaker all.1)

  pub all-both : (P Q R : A → Type 0) (xs : List A) → ((x : A) → P x → Q x → R x) → AllByRecursion P xs → AllByRecursion Q xs → AllByRecursion R xs
  all-both P Q R [] both ps qs = tt
  all-both P Q R (x ∷ xs) both ps qs = (both x ps.0 qs.0, all-both P Q R xs both ps.1 qs.1)

  pub all-map : (P : A → Type 0) (f : A → A) (xs : List A) → AllByRecursion (λ x. P (f x)) xs → AllByRecursion P (map f xs)
  all-map P f [] all = tt
  all-map P f (x ∷ xs) all = (all.0, all-map P f xs all.1)

  pub all-append : (P : A → Type 0) (xs ys : List A) → AllByRecursion P xs → AllByRecursion P ys → AllByRecursion P (xs ++ ys)
  all-append P [] ys first second = second
  all-append P (x ∷ xs) ys first second = (first.0, all-append P xs ys first.1 second)

  pub all-push : (P : A → Type 0) (xs : List A) (x : A) → AllByRecursion P xs → P x → AllByRecursion P (xs ++ x ∷ [])
  all-push P [] x all last = (last, tt)
  all-push P (y ∷ ys) x all last = (all.0, all-push P ys x all.1 last)

module _ {A : Type 0} (size : A → ℕ) where
  -- the first start is a boundary
  pub boundary-from : (from : ℕ) (xs : List A) → IsTilingBoundary size from xs from
  boundary-from from [] = refl
  boundary-from from (x ∷ xs) = inl refl

  pub boundary-push : (from : ℕ) (xs : List A) (x : A) (at : ℕ) → IsTilingBoundary size from xs at → IsTilingBoundary size from (xs ++ x ∷ []) at
  boundary-push from [] x at is = inl is
  boundary-push from (y ∷ ys) x at is = ⊎_elim inl (λ rest. inr (boundary-push (from + size y) ys x at rest)) is

  pub boundary-map : (f : A → A) (from : ℕ) (xs : List A) (at : ℕ) → ((x : A) → size (f x) ≡ size x) → IsTilingBoundary size from xs at → IsTilingBoundary size from (map f xs) at
  boundary-map f from [] at sizes is = is
  boundary-map f from (x ∷ xs) at sizes is = ⊎_elim inl
      (λ rest. inr (subst (λ n. IsTilingBoundary size (from + n) (map f xs) at) (sym (sizes x)) (boundary-map f (from + size x) xs at sizes rest))) is

module _ {A : Type 0} (base : A → ℕ) (size : A → ℕ) where
  -- one range lies before the other
  abbrev pub IsApart : A → A → Type 0
  IsApart r q = (base q + size q ≤ base r) ⊎ (base r + size r ≤ base q)

  pub tiling-le : (from : ℕ) (xs : List A) (to : ℕ) → IsTiling base size from xs to → from ≤ to
  tiling-le from [] to tiles = omega arith
  tiling-le from (x ∷ xs) to tiles = let rest = tiling-le (from + size x) xs to tiles.1 in omega arith

  pub tiling-push : (from : ℕ) (xs : List A) (to : ℕ) (x : A) → IsTiling base size from xs to → base x ≡ to → IsTiling base size from (xs ++ x ∷ []) (to + size x)
  tiling-push from [] to x tiles follows = (follows ∙ sym tiles, ap (λ n. n + size x) tiles)
  tiling-push from (y ∷ ys) to x tiles follows = (tiles.0, tiling-push (from + size y) ys to x tiles.1 follows)

  pub tiling-map : (f : A → A) (from : ℕ) (xs : List A) (to : ℕ) → ((x : A) → base (f x) ≡ base x) → ((x : A) → size (f x) ≡ size x)
      → IsTiling base size from xs to → IsTiling base size from (map f xs) to
  tiling-map f from [] to bases sizes tiles = tiles
  tiling-map f from (x ∷ xs) to bases sizes tiles = (
    bases x ∙ tiles.0,
    subst (λ n. IsTiling base size (from + n) (map f xs) to) (sym (sizes x)) (tiling-map f (from + size x) xs to bases sizes tiles.1),
  )

  -- each range lies between the first start and the last end
  pub tiling-within : (from : ℕ) (xs : List A) (to : ℕ) → IsTiling base size from xs to → AllByRecursion (λ x. (from ≤ base x) × (base x + size x ≤ to)) xs
  tiling-within from [] to tiles = tt
  tiling-within from (x ∷ xs) to tiles = let le = tiling-le (from + size x) xs to tiles.1 in
      ((omega (arith, tiles.0), omega (arith, tiles.0)), all-weaken _ _ xs (λ y within. (omega arith, within.1)) (tiling-within (from + size x) xs to tiles.1))

  -- each range is the one that is found, or apart from it
  pub tiling-found_or_apart : (from : ℕ) (xs : List A) (to : ℕ) (p : A → Bool) (r : A) → IsTiling base size from xs to → find p xs ≡ Some r → AllByRecursion (λ q. (q ≡ r) ⊎ IsApart r q) xs
  tiling-found_or_apart from [] to p r tiles is = tt
  tiling-found_or_apart from (x ∷ xs) to p r tiles is = let behind = tiling-within (from + size x) xs to tiles.1 in ⊎_elim
      (λ here. (
        inl here.1,
        subst (λ z. AllByRecursion (λ q. (q ≡ z) ⊎ IsApart z q) xs) here.1
            (all-weaken _ _ xs (λ y within. inr (inr (omega (arith, tiles.0, within.0)))) behind),
      ))
      (λ later. let within = all-found _ p xs r later.1 behind in
      (inr (inl (omega (arith, tiles.0, within.0))), tiling-found_or_apart (from + size x) xs to p r tiles.1 later.1))
      (found-cases p x xs r is)

  -- the end of a range that is found is a boundary
  pub boundary-end_of_found : (from : ℕ) (xs : List A) (to : ℕ) (p : A → Bool) (r : A) → IsTiling base size from xs to → find p xs ≡ Some r → IsTilingBoundary size from xs (base r + size r)
  boundary-end_of_found from [] to p r tiles is = absurd (cc)
  boundary-end_of_found from (x ∷ xs) to p r tiles is = ⊎_elim
      (λ here. inr (subst (λ z. IsTilingBoundary size (from + size x) xs z)
      (ap (λ n. n + size x) (sym tiles.0) ∙ ap (λ z. base z + size z) here.1) (boundary-from size (from + size x) xs)))
      (λ later. inr (boundary-end_of_found (from + size x) xs to p r tiles.1 later.1))
      (found-cases p x xs r is)

  -- a boundary is the last end, or a range starts there
  pub boundary-last_end_or_start : (from : ℕ) (xs : List A) (to : ℕ) (at : ℕ) → IsTiling base size from xs to → IsTilingBoundary size from xs at → (at
      ≡ to) ⊎ ((r : A) × (find (λ x. base x == at) xs ≡ Some r))
  boundary-last_end_or_start from [] to at tiles is = inl (is ∙ tiles)
  boundary-last_end_or_start from (x ∷ xs) to at tiles is = ⊎_elim
      (λ here. inr (x, ap (λ b. cond b (Some x) (find (λ y. base y == at) xs)) (eq-eqb (base x) at (tiles.0 ∙ sym here))))
      (λ rest. ⊎_elim inl (λ found. inr (by_test (base x == at) found)) (boundary-last_end_or_start (from + size x) xs to at tiles.1 rest)) is
    where
      by_test : (b : Bool) → (r : A) × (find (λ y. base y == at) xs ≡ Some r) → (r : A) × (cond b (Some x) (find (λ y. base y == at) xs) ≡ Some r)
      by_test true found = (x, refl)
      by_test false found = found
