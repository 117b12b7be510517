-- Where the parts of a transfer's line end.
use Rattle.std.specs.Prelude.{◌≡◌, ◌≤◌, ℕ, List, [], ◌∷◌, ⊤}
use Rattle.txn_script.specs.declared.pay.TheConstants.{SPACE}

abbrev pub IsDigit : ℕ → Type 0
IsDigit byte = (48 ≤ byte) × (byte ≤ 57)

-- no digit comes next: a number before these bytes is read whole
abbrev pub EndsNumber : List ℕ → Type 0
EndsNumber [] = ⊤
EndsNumber (byte ∷ more) = IsDigit byte → ⊥

-- a space and a digit come next
abbrev pub BeginsLeg : List ℕ → Type 0
BeginsLeg [] = ⊥
BeginsLeg (byte ∷ []) = ⊥
BeginsLeg (byte ∷ next ∷ more) = (byte ≡ SPACE) × IsDigit next

-- the legs before these bytes are read whole
pub record EndsLegs (bytes : List ℕ) : Type 0 where
  pub number : EndsNumber bytes
  pub leg : BeginsLeg bytes → ⊥
