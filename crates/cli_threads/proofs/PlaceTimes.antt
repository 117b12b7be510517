-- How often a place stands in a list, and in lists joined.
use Rattle.std.proofs.Common.{◌≡◌, ◌≤◌, ℕ, zero, suc, List, [], ◌∷◌, map, refl, ap, sym, arith, Contains}
use Rattle.std.specs.List.{concat}
use mathlib.Core.Logic.{dite}
use mathlib.Core.Option.{some, some-injective, some-ne-none}
use native.Mathlib.Decide.{ℕ_discrete, dec_lt}
use lib.ListN.{get_elem?}
use Rattle.job_queue.specs.Takings.{times, once_below}
use Rattle.job_queue.proofs.Counting.{times-append}
use Rattle.txn_runner.proofs.TyingLemmas.{same-equal_one, same-unequal_zero}

-- a list has a place where it has it once at least
pub contains-times_positive : (x : ℕ) (xs : List ℕ) → Contains xs x → 1 ≤ times x xs
contains-times_positive x [] (i, inside, is) = absurd (omega arith)
contains-times_positive x (y ∷ ys) (zero, inside, is) = omega (arith, same-equal_one x y (sym is))
contains-times_positive x (y ∷ ys) (suc i, inside, is) = omega (arith, contains-times_positive x ys (i, omega arith, is))

pub times_positive-contains : (x : ℕ) (xs : List ℕ) → 1 ≤ times x xs → Contains xs x
times_positive-contains x [] has = absurd (omega (arith, has))
times_positive-contains x (y ∷ ys) has = dite (ℕ_discrete x y)
    (λ is. (0, omega arith, sym is))
    (λ other. let rest = times_positive-contains x ys (omega (arith, has, same-unequal_zero x y other)) in (suc rest.0, omega (arith, rest.1), rest.2))

pub once_below-behind : (x n : ℕ) → n ≤ x → once_below x n ≡ 0
once_below-behind x zero behind = refl
once_below-behind zero (suc n) behind = absurd (omega (arith, behind))
once_below-behind (suc x) (suc n) behind = once_below-behind x n (omega (arith, behind))

module _ {A : Type 0} (places_of : A → List ℕ) (x : ℕ) where
  -- lists joined have it as often as one of them, at least
  pub times-concat_le : (list : List A) (i : ℕ) (one : A) → get_elem? list i ≡ some one
      → times x (places_of one) ≤ times x (concat (map places_of list))
  times-concat_le [] i one at = absurd (some-ne-none one (sym at))
  times-concat_le (first ∷ list) zero one at =
      let is : times x (places_of first) ≡ times x (places_of one) = ap (λ a. times x (places_of a)) (some-injective first one at) in
      omega (arith, is, times-append x (places_of first) (concat (map places_of list)))
  times-concat_le (first ∷ list) (suc i) one at =
      omega (arith, times-concat_le list i one at, times-append x (places_of first) (concat (map places_of list)))

  -- and one of them has it, where they do
  pub times-concat_member : (list : List A) → 1 ≤ times x (concat (map places_of list))
      → (i : ℕ) × (one : A) × (get_elem? list i ≡ some one) × (1 ≤ times x (places_of one))
  times-concat_member [] has = absurd (omega (arith, has))
  times-concat_member (first ∷ list) has = dite (dec_lt 0 (times x (places_of first)))
      (λ here. (0, first, refl, here))
      (λ none.
      let sum = times-append x (places_of first) (concat (map places_of list)) in
      let rest = times-concat_member list (omega (arith, has, none, sum)) in
      (suc rest.0, rest.1, rest.2, rest.3))
