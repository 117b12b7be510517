-- Lists of numbers that rise.
use Rattle.std.proofs.Common.{ℕ, ◌+◌, ◌<◌, ◌≤◌, List, [], ◌∷◌, ◌++◌, length, arith}
use Rattle.std.specs.List.{AllByRecursion}
use Rattle.lsn_space.proofs.TilingLemmas.{all-weaken, all-append}
use Rattle.txn_jobs.specs.Places.{Rises}

-- a number above all others comes behind them
pub Rises-push : (xs : List ℕ) (x : ℕ) → Rises xs → AllByRecursion (λ y. y < x) xs → Rises (xs ++ x ∷ [])
Rises-push [] x rises below = (tt, tt)
Rises-push (y ∷ ys) x rises below = (all-append (λ z. y < z) ys (x ∷ []) rises.0 (below.0, tt), Rises-push ys x rises.1 below.1)

-- from one number up to another there is room for no more than their difference
rises-from : (low high : ℕ) (xs : List ℕ) → low ≤ high → Rises xs → AllByRecursion (λ x. low ≤ x) xs → AllByRecursion (λ x. x < high) xs
    → low + length xs ≤ high
rises-from low high [] order rises above below = omega (arith, order)
rises-from low high (x ∷ xs) order rises above below =
    let rest : x + 1 + length xs ≤ high = rises-from (x + 1) high xs (omega (arith, below.0)) rises.1
    (all-weaken (λ y. x < y) (λ y. x + 1 ≤ y) xs (λ y less. omega (arith, less)) rises.0) below.1 in
    omega (arith, rest, above.0)

-- so those below a number are no more than it says
pub Rises-length_le : (xs : List ℕ) (high : ℕ) → Rises xs → AllByRecursion (λ x. x < high) xs → length xs ≤ high
Rises-length_le xs high rises below = omega (arith, rises-from 0 high xs (omega arith) rises (at_least xs) below)
  where
    at_least : (xs : List ℕ) → AllByRecursion (λ x. 0 ≤ x) xs
    at_least [] = tt
    at_least (x ∷ xs) = (omega arith, at_least xs)
