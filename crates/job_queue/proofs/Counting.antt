-- Numbers in order, how often a list has one, and sums over views.
use Rattle.std.proofs.Common.{◌≡◌, ◌≢◌, ◌<◌, ◌≤◌, ◌+◌, ℕ, zero, suc, List, [], ◌∷◌, ◌++◌, length, set, sym, refl, ap, ◌∙◌, subst, ⊎_elim, arith, length-append}
use mathlib.Core.Option.{some, some-injective, some-ne-none}
use lib.ListN.{get_elem?}
use Rattle.crossbeam_queue.proofs.Lists.{at_set, at_snoc}
use Rattle.lsn_space.proofs.ListLemmas.{summed-member_le}
use Rattle.lsn_space.specs.Lists.{Everywhere, summed}
use Rattle.job_queue.specs.Takings.{same, once_below, times}
use Rattle.job_queue.specs.Rule.{counted}

counted-more : (k n : ℕ) → counted k n ++ (k + n) ∷ [] ≡ counted k (suc n)
counted-more k zero = let e : k + 0 ≡ k = omega arith in ap (λ (x : ℕ). x ∷ []) e
counted-more k (suc n) = let e : k + suc n ≡ suc k + n = omega arith in
    ap (λ (l : List ℕ). k ∷ l) (ap (λ (x : ℕ). counted (suc k) n ++ x ∷ []) e ∙ counted-more (suc k) n)

longer : (items : List ℕ) (x : ℕ) → suc (length items) ≡ length (items ++ x ∷ [])
longer items x = omega (arith, length-append items (x ∷ []))

-- the number that comes next is put behind the others
pub counted-push : (next : ℕ) (items : List ℕ) (x : ℕ) → items ≡ counted next (length items) → next + length items ≡ x
    → items ++ x ∷ [] ≡ counted next (length (items ++ x ∷ []))
counted-push next items x are number = (ap (λ l. l ++ x ∷ []) are ∙ ap (λ y. counted next (length items) ++ y ∷ []) (sym number))
    ∙ (counted-more next (length items) ∙ ap (counted next) (longer items x))

-- and the first of them is the least
pub counted-first : (x next : ℕ) (items : List ℕ) → x ∷ items ≡ counted next (length (x ∷ items))
    → (x ≡ next) × (items ≡ counted (suc next) (length items))
counted-first x next items e = (ap head e, ap tail e)
  where
    head : List ℕ → ℕ
    head [] = x
    head (y ∷ ys) = y

    tail : List ℕ → List ℕ
    tail [] = []
    tail (y ∷ ys) = ys

pub once_below-suc : (x n : ℕ) → once_below x (suc n) ≡ once_below x n + same x n
once_below-suc zero zero = refl
once_below-suc (suc x) zero = refl
once_below-suc zero (suc n) = refl
once_below-suc (suc x) (suc n) = once_below-suc x n

pub once_below-le_one : (x n : ℕ) → once_below x n ≤ 1
once_below-le_one x zero = omega arith
once_below-le_one zero (suc n) = omega arith
once_below-le_one (suc x) (suc n) = once_below-le_one x n

-- a number that is there is below
pub once_below-positive_less : (x n : ℕ) → 1 ≤ once_below x n → x < n
once_below-positive_less x zero some' = absurd (omega (arith, some'))
once_below-positive_less zero (suc n) some' = omega arith
once_below-positive_less (suc x) (suc n) some' = omega (arith, once_below-positive_less x n some')

-- each number below is there once
pub once_below-inside : (x n : ℕ) → x < n → once_below x n ≡ 1
once_below-inside x zero below = absurd (omega (arith, below))
once_below-inside zero (suc n) below = refl
once_below-inside (suc x) (suc n) below = once_below-inside x n (omega (arith, below))

pub same-refl : (x : ℕ) → same x x ≡ 1
same-refl zero = refl
same-refl (suc x) = same-refl x

pub times-append : (x : ℕ) (xs ys : List ℕ) → times x (xs ++ ys) ≡ times x xs + times x ys
times-append x [] ys = omega arith
times-append x (y ∷ xs) ys = omega (arith, times-append x xs ys)

pub times-push : (x : ℕ) (xs : List ℕ) (y : ℕ) → times x (xs ++ y ∷ []) ≡ times x xs + same x y
times-push x xs y = omega (arith, times-append x xs (y ∷ []))

module _ {A : Type 0} where
  pub get_elem-within : (list : List A) (i : ℕ) (x : A) → get_elem? list i ≡ some x → i < length list
  get_elem-within [] i x at = absurd (some-ne-none x (sym at))
  get_elem-within (y ∷ ys) zero x at = omega arith
  get_elem-within (y ∷ ys) (suc i) x at = omega (arith, get_elem-within ys i x at)

  pub everywhere-set : (P Q : A → Type 0) (list : List A) (me : ℕ) (new : A) → Everywhere P list → Q new → ((x : A) → P x → Q x)
      → Everywhere Q (set list me new)
  everywhere-set P Q list me new all mine f j x there = ⊎_elim (λ (t : (j ≡ me) × (new ≡ x)). subst Q t.1 mine)
      (λ (t : (j ≢ me) × (get_elem? list j ≡ some x)). f x (all j x t.1)) (at_set list me j new x there)

  pub everywhere-snoc : (P : A → Type 0) (list : List A) (new : A) → Everywhere P list → P new → Everywhere P (list ++ new ∷ [])
  everywhere-snoc P list new all mine j x there =
      ⊎_elim (λ before. all j x before) (λ (is : new ≡ x). subst P is mine) (at_snoc list new x j there)

  -- where the others weigh nothing, and so amount to nothing, the sum is the one's
  summed-none : (weight amount : A → ℕ) (list : List A) → ((i : ℕ) (x : A) → get_elem? list i ≡ some x → weight x ≡ 0 → amount x ≡ 0)
      → summed weight list ≡ 0 → summed amount list ≡ 0
  summed-none weight amount [] f none = refl
  summed-none weight amount (x ∷ xs) f none = let mine = f 0 x refl (omega (arith, none)) in
      let rest = summed-none weight amount xs (λ i y. f (suc i) y) (omega (arith, none)) in omega (arith, mine, rest)

  pub summed-only_weighted : (weight amount : A → ℕ) (list : List A) (i : ℕ) (x : A) → get_elem? list i ≡ some x → weight x ≡ 1
      → summed weight list ≡ 1 → ((j : ℕ) (y : A) → get_elem? list j ≡ some y → weight y ≡ 0 → amount y ≡ 0) → summed amount list ≡ amount x
  summed-only_weighted weight amount [] i x there one all f = absurd (some-ne-none x (sym there))
  summed-only_weighted weight amount (y ∷ ys) zero x there one all f =
      let is : weight y ≡ weight x = ap weight (some-injective y x there) in
      let also : amount y ≡ amount x = ap amount (some-injective y x there) in
      let rest = summed-none weight amount ys (λ j z. f (suc j) z) (omega (arith, one, all)) in omega (arith, rest)
  summed-only_weighted weight amount (y ∷ ys) (suc i) x there one all f =
      let less = summed-member_le weight ys i x there in
      let mine = f 0 y refl (omega (arith, one, all, less)) in
      let rest = summed-only_weighted weight amount ys i x there one (omega (arith, one, all, less)) (λ j z. f (suc j) z) in
      omega (arith, mine, rest)
