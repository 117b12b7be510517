-- The bytes of a log file: batches of units, each behind a gate byte. The files of the first format, with nothing before the list.
use Rattle.std.specs.Prelude.{◌≡◌, ◌<◌, ◌≤◌, ◌⊎◌, ℕ, ◌+◌, ◌^◌, List, [], ◌∷◌, ◌++◌, length, codes}
use Rattle.std.specs.List.{flat_map, AllByRecursion}
use Rattle.std.specs.Int.{w32, to_be_bytes}
use Rattle.lsn_space.specs.Unit.{unit_bytes}
use Rattle.lsn_space.specs.declared.lsn.TheConstants.{LAST}
use Rattle.segment_head.specs.Head.{head_magic}
use Rattle.segment_file.specs.declared.layout.TheConstants.{OPEN, MOST_UNITS}

-- the bytes behind a file's first gate
abbrev pub magic : List ℕ
magic = codes "AETHER1"

-- the bytes begin with an open gate: it is 0x4F, and at least one byte follows it
abbrev pub BeginsOpen : List ℕ → Type 0
BeginsOpen (gate ∷ next ∷ rest) = gate ≡ OPEN
BeginsOpen bytes = ⊥

-- each is a number of 64 bits
abbrev pub AreUnits : List ℕ → Type 0
AreUnits units = AllByRecursion (λ unit. unit < 2 ^ 64) units

-- a batch has 1 to 1048576 units
pub record IsCountedBatch (units : List ℕ) : Type 0 where
  pub some : 0 < length units
  pub most : length units ≤ MOST_UNITS
  pub each : AreUnits units

-- the bytes of a batch: how many units there are, in four bytes, and the units
unfoldable pub batch : List ℕ → List ℕ
batch units = to_be_bytes w32 (length units) ++ flat_map unit_bytes units

-- a batch behind its open gate
abbrev pub gated : List ℕ → List ℕ
gated units = OPEN ∷ batch units

-- the bytes of a file's batches, one after another, the first of them behind the magic bytes
abbrev pub written : List (List ℕ) → List ℕ
written [] = []
written (first ∷ more) = OPEN ∷ magic ++ batch first ++ flat_map gated more

-- the units of all batches
abbrev pub joined : List (List ℕ) → List ℕ
joined batches = flat_map (λ units. units) batches

-- the bytes are these batches, and then a gate that isn't open; whatever follows that gate is not read
pub record IsFile (bytes : List ℕ) (batches : List (List ℕ)) (rest : List ℕ) : Type 0 where
  pub some : 0 < length batches
  pub each : AllByRecursion IsCountedBatch batches
  pub whole : bytes ≡ written batches ++ rest
  pub closed : BeginsOpen rest → ⊥
  pub total : length (joined batches) ≤ LAST

-- the bytes are a log file with these units
abbrev pub HoldsUnits : List ℕ → List ℕ → Type 0
HoldsUnits bytes units = (batches : List (List ℕ)) × (rest : List ℕ) × IsFile bytes batches rest × (units ≡ joined batches)

-- the bytes begin with an open gate and the magic bytes of the first format, or of the second
abbrev pub BeginsAsFirst : List ℕ → Type 0
BeginsAsFirst bytes = (rest : List ℕ) × (bytes ≡ OPEN ∷ magic ++ rest)

abbrev pub BeginsAsSecond : List ℕ → Type 0
BeginsAsSecond bytes = (rest : List ℕ) × (bytes ≡ OPEN ∷ head_magic ++ rest)

-- the bytes begin as a log of either format
abbrev pub BeginsAsLog : List ℕ → Type 0
BeginsAsLog bytes = BeginsAsFirst bytes ⊎ BeginsAsSecond bytes

-- the bytes begin with no batch that a log which ends at this LSN has room for
abbrev pub HasNoBatch : ℕ → List ℕ → Type 0
HasNoBatch end bytes = (units rest : List ℕ) → IsCountedBatch units → bytes ≡ batch units ++ rest → end + length units ≤ LAST → ⊥
