-- The bytes of a file of records: an open gate and the magic bytes, and then each record behind an open gate.
use Rattle.std.specs.Prelude.{◌≡◌, ◌<◌, ◌≤◌, ℕ, List, [], ◌∷◌, ◌++◌, length, codes}
use Rattle.std.specs.List.{flat_map, AllByRecursion}
use Rattle.std.specs.Int.{w32, to_be_bytes}
use Rattle.segment_file.specs.File.{BeginsOpen}
use Rattle.segment_file.specs.declared.layout.TheConstants.{OPEN}
use Rattle.own_records.specs.declared.layout.TheConstants.{MOST_BYTES, MOST_FRESH}
use Rattle.own_records.specs.declared.reading.RecordsFault.{RecordsFault}
use Rattle.own_records.specs.declared.reading.RecordsFault.TheVariants.{NotRecords, BadRecord, NoMemory}

-- the bytes behind the first gate
abbrev pub magic : List ℕ
magic = codes "RECORDS"

-- the bytes begin with an open gate and the magic bytes
abbrev pub BeginsAsRecords : List ℕ → Type 0
BeginsAsRecords bytes = (rest : List ℕ) × (bytes ≡ OPEN ∷ magic ++ rest)

-- a text has 1 to 65536 bytes
pub record IsText (text : List ℕ) : Type 0 where
  pub some : 0 < length text
  pub most : length text ≤ MOST_BYTES

-- a record's bytes behind its gate: the length of the text in four bytes, and the text
unfoldable pub spelled : List ℕ → List ℕ
spelled text = to_be_bytes w32 (length text) ++ text

-- a record behind its open gate
abbrev pub gated : List ℕ → List ℕ
gated text = OPEN ∷ spelled text

-- the bytes of a file with these records, up to its last gate
abbrev pub recorded : List (List ℕ) → List ℕ
recorded texts = OPEN ∷ magic ++ flat_map gated texts

-- the bytes hold these records, and the first gate that isn't open is at this place; whatever follows that gate is not read
pub record StandsAt (at : ℕ) (texts : List (List ℕ)) (bytes : List ℕ) : Type 0 where
  pub rest : List ℕ
  pub each : AllByRecursion IsText texts
  pub whole : bytes ≡ recorded texts ++ rest
  pub closed : BeginsOpen rest → ⊥
  pub place : at ≡ length (recorded texts)

-- a file without records, as it is while it is made: of at most 9 bytes, with a first gate that isn't open
pub record IsFresh (bytes : List ℕ) : Type 0 where
  pub few : length bytes ≤ MOST_FRESH
  pub closed : BeginsOpen bytes → ⊥

-- the bytes hold these records
pub data Holds (texts : List (List ℕ)) (bytes : List ℕ) : Type 0 where
  made : (at : ℕ) → StandsAt at texts bytes → Holds texts bytes
  unmade : texts ≡ [] → IsFresh bytes → Holds texts bytes

-- the bytes hold no list of records
abbrev pub HoldsNone : List ℕ → Type 0
HoldsNone bytes = (texts : List (List ℕ)) → Holds texts bytes → ⊥

-- what is wrong with the bytes; want of memory says nothing of them
abbrev pub IsRecordsFaultOf : List ℕ → RecordsFault → Type 0
IsRecordsFaultOf bytes NotRecords = HoldsNone bytes
IsRecordsFaultOf bytes BadRecord = HoldsNone bytes
IsRecordsFaultOf bytes NoMemory = Unit {0}
