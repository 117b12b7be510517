-- What a reader has read of a stream.
use Rattle.std.specs.Prelude.{◌≡◌, ◌<◌, ◌≤◌, ℕ, ◌+◌, List, ◌++◌, length}
use Rattle.std.specs.Int.{w32, to_be_bytes}
use Rattle.std.specs.List.{flat_map}
use Rattle.lsn_space.specs.Unit.{unit_bytes}
use Rattle.lsn_space.specs.declared.lsn.TheConstants.{LAST}
use Rattle.segment_file.specs.File.{AreUnits}
use Rattle.ship_stream.specs.Came.{Came}
use Rattle.ship_stream.specs.Came.Came.{NoHead, Open, Whole}
use Rattle.ship_stream.specs.Stream.{end_bytes, frames_end, HasFrames}
use Rattle.ship_stream.specs.declared.layout.TheConstants.{HEAD_BYTES, COUNT_BYTES, MOST_FRAME_UNITS}
use Rattle.stream_reader.specs.declared.reader.Stage.{Stage}
use Rattle.stream_reader.specs.declared.reader.Stage.TheVariants.{Head, Count, Units, End}
use Rattle.stream_reader.specs.declared.reader.StreamReader.{StreamReader}

-- units, and the bytes of one that isn't whole
abbrev pub units_bytes : List ℕ → List ℕ → List ℕ
units_bytes units begun = flat_map unit_bytes units ++ begun

-- the bytes of the part under way, of which units are in the batch, and the bytes of a number that isn't whole wait
abbrev pub part_bytes : Stage → List ℕ → List ℕ → List ℕ
part_bytes Head units begun = begun
part_bytes Count units begun = begun
part_bytes (Units count) units begun = to_be_bytes w32 count ++ units_bytes units begun
part_bytes End units begun = end_bytes

-- a frame that may have so many units here has fewer of them, and the first bytes of another
pub record IsFrameBegun (lsn count : ℕ) (units begun : List ℕ) : Type 0 where
  pub under : length units < count
  pub most : count ≤ MOST_FRAME_UNITS
  pub fits : lsn + count ≤ LAST
  pub short : length begun < 8
  pub each : AreUnits units

-- at each stage: what has come, and how much of the part under way
abbrev pub IsAtStage : Stage → Came → ℕ → List ℕ → List ℕ → Type 0
IsAtStage Head NoHead lsn units begun = length begun < HEAD_BYTES
IsAtStage Count (Open first frames) lsn units begun = (lsn ≡ frames_end first frames) × (length begun < COUNT_BYTES)
IsAtStage (Units count) (Open first frames) lsn units begun = (lsn ≡ frames_end first frames) × IsFrameBegun lsn count units begun
IsAtStage End (Whole first frames) lsn units begun = Unit {0}
IsAtStage stage came lsn units begun = ⊥

-- the bytes are what has come, and the part under way
abbrev pub ReadsTo : Came → List ℕ → List ℕ → Type 0
ReadsTo NoHead bytes part = bytes ≡ part
ReadsTo (Open first frames) bytes part = HasFrames bytes first frames part
ReadsTo (Whole first frames) bytes part = HasFrames bytes first frames part

-- At this stage these bytes are read, and so much of the stream has come: the part under way begins at this place, and the frames end
-- at this LSN.
pub record ReadsAt (stage : Stage) (at next room : ℕ) (units begun bytes : List ℕ) (came : Came) : Type 0 where
  pub stage_is : IsAtStage stage came next units begun
  pub reads : ReadsTo came bytes (part_bytes stage units begun)
  pub place : at + length (part_bytes stage units begun) ≡ length bytes
  pub room_is : room ≡ MOST_FRAME_UNITS

-- the reader has read these bytes of a stream, and so much of it has come
abbrev pub HasRead : StreamReader → List ℕ → Came → Type 0
HasRead reader bytes came = ReadsAt reader.stage reader.at reader.next reader.batch.room reader.batch.units reader.begun bytes came
