-- What reads and writes do to allowances and to bytes.
use Rattle.std.specs.Prelude.{◌≡◌, ◌<◌, ℕ, ◌-◌, List, [], length, ◌++◌, Option, Some, Result, IfSome, MatchResult, OnOk, OnErr, if◌then◌else◌, ◌==◌}
use Rattle.std.specs.Io.KnownBytes.{Appends}
use Rattle.log_disk.specs.Faults.{HasCause}

-- a read that gives bytes takes one from the allowance, and no other does
abbrev pub SpendsAllowance : {E : Type 0} → ℕ → ℕ → Result ℕ E → Type 0
SpendsAllowance before now result = MatchResult result (λ n. now ≡ (if n == 0 then before else before - 1)) (λ _. now ≡ before)

-- what was read is all that was left
abbrev pub ReadsAll : Option (List ℕ) → Option (List ℕ) → List ℕ → Type 0
ReadsAll left left_new bytes = IfSome left (λ all. (bytes ≡ all) × (left_new ≡ Some []))

-- known bytes grow by a prefix of these
abbrev pub AppendsPrefix : Option (List ℕ) → Option (List ℕ) → List ℕ → Type 0
AppendsPrefix old new bytes = (prefix rest : List ℕ) × (bytes ≡ prefix ++ rest) × Appends old new prefix

-- known bytes grow by a prefix of these, and not by all of them
abbrev pub AppendsPart : Option (List ℕ) → Option (List ℕ) → List ℕ → Type 0
AppendsPart old new bytes = (prefix rest : List ℕ) × (bytes ≡ prefix ++ rest) × Appends old new prefix × (0 < length rest)

-- known bytes grow by these, or at a fault by a part of them; the fault is counted
pub record AppendsAll {T E : Type 0} (old new : Option (List ℕ)) (bytes : List ℕ) (faults_old faults_new : ℕ) (result : Result T E) : Type 0 where
  pub all : OnOk result (Appends old new bytes)
  pub prefix : OnErr result (AppendsPart old new bytes)
  pub cause : HasCause faults_old faults_new result

-- known bytes grow by these but for the last of them, which wait in a block
abbrev pub AppendsBut : Option (List ℕ) → Option (List ℕ) → List ℕ → List ℕ → Type 0
AppendsBut old new bytes waiting = (prefix : List ℕ) × (bytes ≡ prefix ++ waiting) × Appends old new prefix
