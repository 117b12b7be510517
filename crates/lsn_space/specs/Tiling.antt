-- Ranges that follow one another, as the elements of a list whose bases and sizes are given.
use Rattle.std.specs.Prelude.{◌≡◌, ◌⊎◌, ℕ, ◌+◌, List, [], ◌∷◌}

-- the first range starts at `from`, each other where the one before it ends, and the last ends at `to`
abbrev pub IsTiling : {A : Type 0} → (A → ℕ) → (A → ℕ) → ℕ → List A → ℕ → Type 0
IsTiling base size from [] to = from ≡ to
IsTiling base size from (x ∷ xs) to = (base x ≡ from) × IsTiling base size (from + size x) xs to

-- `at` is where ranges that follow one another from `from` on begin, or where one of them ends
abbrev pub IsTilingBoundary : {A : Type 0} → (A → ℕ) → ℕ → List A → ℕ → Type 0
IsTilingBoundary size from [] at = at ≡ from
IsTilingBoundary size from (x ∷ xs) at = (at ≡ from) ⊎ IsTilingBoundary size (from + size x) xs at
