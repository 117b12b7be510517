-- What holds of each element of a list at its place, and sums over lists.
use Rattle.std.specs.Prelude.{◌≡◌, ℕ, ◌+◌, List, [], ◌∷◌}
use mathlib.Core.Option.{some}
use lib.ListN.{get_elem?}

-- each element has this
abbrev pub Everywhere : {A : Type 0} → (A → Type 0) → List A → Type 0
Everywhere P list = (i : ℕ) (x : _) → get_elem? list i ≡ some x → P x

-- the sum over all elements
abbrev pub summed : {A : Type 0} → (A → ℕ) → List A → ℕ
summed amount [] = 0
summed amount (x ∷ more) = amount x + summed amount more
