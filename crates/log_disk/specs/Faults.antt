-- Counts of faults. A count is 64 bits wide, and stands still at its last value.
use Rattle.std.specs.Prelude.{◌≡◌, ◌≤◌, ℕ, ◌+◌, ◌-◌, ◌^◌, min, Result, OnOk, OnErr}

-- one more, or the last value of the counter
abbrev pub raised : ℕ → ℕ
raised count = min (count + 1) (2 ^ 64 - 1)

-- one fault was counted, and no other
abbrev pub Rose : ℕ → ℕ → Type 0
Rose before now = now ≡ raised before

-- one fault is counted where P holds, and none where it doesn't
pub record CountsWhere (P : Type 0) (before now : ℕ) : Type 0 where
  pub counted : P → Rose before now
  pub fine : (P → ⊥) → now ≡ before

-- one fault is counted where the call failed, and none where it succeeded; so what failed wasn't tried again
pub record HasCause {T E : Type 0} (before now : ℕ) (result : Result T E) : Type 0 where
  pub later : before ≤ now
  pub fine : OnOk result (now ≡ before)
  pub failed : OnErr result (Rose before now)
