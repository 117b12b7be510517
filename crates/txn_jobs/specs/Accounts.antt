-- The accounts of a transfer.
use Rattle.std.specs.Prelude.{◌≡◌, ℕ, ◌+◌, ◌≤◌, ◌⊎◌, List, length, Contains, Any}

-- both accounts of the leg are in the list
abbrev pub HasAccountsOf : List ℕ → ℕ × ℕ × ℕ → Type 0
HasAccountsOf accounts leg = Contains accounts leg.0 × Contains accounts leg.1

-- the account pays or receives in one of the legs
abbrev pub IsAccountOf : List (ℕ × ℕ × ℕ) → ℕ → Type 0
IsAccountOf legs account = Any (λ (leg : ℕ × ℕ × ℕ). (leg.0 ≡ account) ⊎ (leg.1 ≡ account)) legs

-- the list has the account too, and no other one more
pub record AddsAccount (account : ℕ) (old new : List ℕ) : Type 0 where
  pub has : Contains new account
  pub keeps : (other : ℕ) → Contains old other → Contains new other
  pub only : (other : ℕ) → Contains new other → (other ≡ account) ⊎ Contains old other
  pub longer : length new ≤ length old + 1
