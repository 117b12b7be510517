-- A log in batches, and how it is written behind its closed first gate.
use Rattle.std.specs.Prelude.{◌≡◌, ◌⊎◌, ℕ, List, [], ◌∷◌, slice_get, Some}
use Rattle.log_disk.specs.Disk.{put}
use Rattle.segment_file.specs.File.{BeginsAsLog}
use Rattle.segment_file.specs.Log.{Log, HoldsLog}
use Rattle.segment_file.specs.StandingLog.{LogStandsAt, IsShut}
use Rattle.segment_file.specs.declared.layout.TheConstants.{OPEN, CLOSED}
use Rattle.segment_file.specs.declared.scan_result.Tail.{Tail}

-- the bytes hold this log, in these batches behind what it begins with
abbrev pub HoldsBatches : Log → List (List ℕ) → List ℕ → Type 0
HoldsBatches log batches bytes = (held : HoldsLog bytes log) × (held.reads.batches ≡ batches)

-- no log, or this one in these batches
abbrev pub HoldsNoneOrBatches : Log → List (List ℕ) → List ℕ → Type 0
HoldsNoneOrBatches log batches bytes = (BeginsAsLog bytes → ⊥) ⊎ HoldsBatches log batches bytes

-- the bytes hold this log in these batches, and their first gate that isn't open is at this tail
abbrev pub BatchesStandAt : Tail → Log → List (List ℕ) → List ℕ → Type 0
BatchesStandAt tail log batches bytes = (stands : LogStandsAt tail log bytes) × (stands.held.reads.batches ≡ batches)

-- The first byte is the same in each image, and opens no gate. Were the first gate open, the file that is read would hold this log in these
-- batches and go on at this tail, where a closed gate stands.
pub record IsUnderway (tail : Tail) (log : Log) (batches : List (List ℕ)) (file : List ℕ) (images : List ℕ → Type 0) : Type 0 where
  pub shut : IsShut 0 images
  pub stands : BatchesStandAt tail log batches (put 0 (OPEN ∷ []) file)
  pub next : slice_get file tail.at ≡ Some CLOSED
