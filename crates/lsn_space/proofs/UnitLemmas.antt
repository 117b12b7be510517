-- The bytes of units.
use Rattle.std.proofs.Common.{◌≡◌, refl, ℕ, ◌*◌, List, [], ◌∷◌, length, arith}
use Rattle.std.specs.List.{flat_map}
use Rattle.lsn_space.specs.Unit.{unit_bytes}

-- a unit takes eight bytes
pub length-unit_bytes : (units : List ℕ) → length (flat_map unit_bytes units) ≡ 8 * length units
length-unit_bytes [] = refl
length-unit_bytes (unit ∷ units) = omega (arith, length-unit_bytes units)
