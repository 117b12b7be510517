-- The stream that carries the records of a log to another: a head, frames of whole records, and an end. Numbers stand highest byte
-- first.
use Rattle.std.specs.Prelude.{◌≡◌, ◌<◌, ◌≤◌, ℕ, ◌+◌, List, ◌++◌, codes}
use Rattle.std.specs.List.{flat_map, AllByRecursion}
use Rattle.std.specs.Int.{w32, to_be_bytes}
use Rattle.lsn_space.specs.Unit.{unit_bytes}
use Rattle.lsn_space.specs.declared.lsn.TheConstants.{LAST}
use Rattle.log_record.specs.declared.rec.Rec.{Rec}
use Rattle.log_record.specs.LogList.{units_of, end_of}
use Rattle.log_record.specs.Spelling.{IsSpellable}
use Rattle.ship_stream.specs.declared.layout.TheConstants.{MOST_FRAME_UNITS}

-- the bytes that a stream begins with
abbrev pub stream_magic : List ℕ
stream_magic = codes "AESHIP1"

-- the head: the magic bytes, and the LSN at which the first frame begins, in four bytes
unfoldable pub head_bytes : ℕ → List ℕ
head_bytes first = stream_magic ++ to_be_bytes w32 first

-- a count of units in four bytes, and units in eight bytes each
unfoldable pub counted_bytes : ℕ → List ℕ → List ℕ
counted_bytes count units = to_be_bytes w32 count ++ flat_map unit_bytes units

-- a frame: how many units its records have, and those units
abbrev pub frame_bytes : List Rec → List ℕ
frame_bytes records = counted_bytes (end_of records) (units_of records)

-- the end: a count of 0
abbrev pub end_bytes : List ℕ
end_bytes = to_be_bytes w32 0

-- a frame has 1 to 65536 units, which are whole spellings of records
pub record IsFrame (records : List Rec) : Type 0 where
  pub some : 0 < end_of records
  pub most : end_of records ≤ MOST_FRAME_UNITS
  pub spellable : AllByRecursion IsSpellable records

-- the records of all frames
abbrev pub records_of : List (List Rec) → List Rec
records_of frames = flat_map (λ records. records) frames

-- the LSN at which the frames end
abbrev pub frames_end : ℕ → List (List Rec) → ℕ
frames_end first frames = first + end_of (records_of frames)

-- the bytes are a head with this LSN, these frames, and a rest
pub record HasFrames (bytes : List ℕ) (first : ℕ) (frames : List (List Rec)) (rest : List ℕ) : Type 0 where
  pub each : AllByRecursion IsFrame frames
  pub total : frames_end first frames ≤ LAST
  pub whole : bytes ≡ head_bytes first ++ flat_map frame_bytes frames ++ rest

-- the bytes are a whole stream: behind the frames stands the end, and nothing follows it
abbrev pub IsStream : List ℕ → ℕ → List (List Rec) → Type 0
IsStream bytes first frames = HasFrames bytes first frames end_bytes

-- the bytes begin with no head
abbrev pub HasNoHead : List ℕ → Type 0
HasNoHead bytes = (first : ℕ) (rest : List ℕ) → first ≤ LAST → bytes ≡ head_bytes first ++ rest → ⊥

-- the bytes begin with no frame that has room behind this LSN
abbrev pub HasNoFrame : ℕ → List ℕ → Type 0
HasNoFrame lsn bytes = (records : List Rec) (rest : List ℕ) → IsFrame records → lsn + end_of records ≤ LAST
    → bytes ≡ frame_bytes records ++ rest → ⊥

-- the bytes don't begin with the end
abbrev pub HasNoEnd : List ℕ → Type 0
HasNoEnd bytes = (rest : List ℕ) → bytes ≡ end_bytes ++ rest → ⊥
