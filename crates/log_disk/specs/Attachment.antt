-- Which file is attached to a disk. `before` and `now` are what is attached before and after.
use Rattle.std.specs.Prelude.{◌≡◌, ◌⊎◌, ℕ, Bool, true, false, List, Option, Some, Result, MatchResult}

-- a file that was attached: its name, and whether it might be made where it was missing
pub record Attached : Type 0 where
  pub name : List ℕ
  pub may_make : Bool

-- the file of that name, which has to be there
abbrev pub existing : List ℕ → Attached
existing name = record { name = name; may_make = false }

-- the file of that name, which is made where it is missing
abbrev pub existing_or_made : List ℕ → Attached
existing_or_made name = record { name = name; may_make = true }

-- this file is attached where the call succeeded, and else what was
abbrev pub Attaches : {T E : Type 0} → Attached → Option Attached → Option Attached → Result T E → Type 0
Attaches file before now result = MatchResult result (λ _. now ≡ Some file) (λ _. now ≡ before)

-- what was attached still is, or this file
abbrev pub MayAttach : Attached → Option Attached → Option Attached → Type 0
MayAttach file before now = (now ≡ before) ⊎ (now ≡ Some file)
