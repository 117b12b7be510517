-- The bytes of batches.
use Rattle.std.proofs.Common.{◌≡◌, ◌≤◌, ◌∙◌, ap, ℕ, ◌+◌, ◌*◌, List, [], ◌∷◌, ◌++◌, length, get_or, arith, length-append}
use Rattle.std.specs.List.{flat_map}
use Rattle.std.specs.Int.{w32, to_be_bytes, from_be_bytes}
use Rattle.std.proofs.lemmas.Nat.{from_be_bytes-to_be_bytes_4}
use Rattle.lsn_space.specs.Unit.{unit_bytes}
use Rattle.lsn_space.proofs.UnitLemmas.{length-unit_bytes}
use Rattle.segment_file.specs.declared.layout.TheConstants.{MOST_UNITS}
use Rattle.segment_file.specs.File.{batch}

-- the number in the first four bytes
abbrev pub count_at : List ℕ → ℕ
count_at bytes = from_be_bytes w32 (get_or bytes 0 0 ∷ get_or bytes 1 0 ∷ get_or bytes 2 0 ∷ get_or bytes 3 0 ∷ [])

-- a batch begins with the number of its units
pub count_at-batch : (bytes units rest : List ℕ) → length units ≤ MOST_UNITS → bytes ≡ batch units ++ rest → count_at bytes ≡ length units
unfolding batch
count_at-batch bytes units rest most front = ap count_at front ∙ from_be_bytes-to_be_bytes_4 (length units) (omega arith)

pub length-batch : (bytes units rest : List ℕ) → bytes ≡ batch units ++ rest → length bytes ≡ 4 + 8 * length units + length rest
unfolding batch
length-batch bytes units rest front =
    omega (arith, ap length front, length-append (flat_map unit_bytes units) rest, length-unit_bytes units)

-- a count and so many units are a batch
pub batch-of_parts : (bytes body rest units : List ℕ) (count : ℕ) → bytes ≡ to_be_bytes w32 count ++ body ++ rest → count ≡ length units
    → body ≡ flat_map unit_bytes units → bytes ≡ batch units ++ rest
unfolding batch
batch-of_parts bytes body rest units count whole counted spelled = cc
