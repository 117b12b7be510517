-- Units as the bytes that go to the disk in one piece.
use Rattle.std.specs.Prelude.{◌≡◌, ◌<◌, ◌≤◌, ℕ, ◌+◌, ◌*◌, ◌^◌, List, [], ◌∷◌, ◌++◌, length}
use Rattle.std.specs.Int.{w32, to_be_bytes}
use Rattle.std.specs.List.{flat_map}
use Rattle.lsn_space.specs.Unit.{unit_bytes, unit_value}
use Rattle.segment_file.specs.declared.layout.TheConstants.{HEAD}
use Rattle.segment_file.specs.File.{magic, AreUnits}

-- the units of a batch that is being gathered, and for how many there is room
pub record BatchState : Type 0 where
  pub units : List ℕ
  pub room : ℕ

-- the units that whole groups of eight bytes stand for
unfoldable pub units_in : List ℕ → List ℕ
units_in (a ∷ b ∷ c ∷ d ∷ e ∷ f ∷ g ∷ h ∷ rest) = unit_value (a ∷ b ∷ c ∷ d ∷ e ∷ f ∷ g ∷ h ∷ []) ∷ units_in rest
units_in bytes = []

-- the bytes are the magic, any number in four bytes, and these units, with room for all units, the next gate and one byte more
pub record IsPacked (bytes units : List ℕ) (room capacity : ℕ) : Type 0 where
  pub each : AreUnits units
  pub number : ℕ
  pub whole : bytes ≡ magic ++ to_be_bytes w32 number ++ flat_map unit_bytes units
  pub few : length units ≤ room
  pub small : room < 2 ^ 32
  pub fits : HEAD + 2 + 8 * room ≤ capacity
