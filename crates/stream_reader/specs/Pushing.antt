-- How a piece of a stream goes into a batch, in units.
use Rattle.std.specs.Prelude.{◌≡◌, ◌≤◌, ℕ, List, ◌++◌, length, take}
use Rattle.segment_file.specs.File.{AreUnits}
use Rattle.segment_file.specs.PackedBatch.{BatchState}
use Rattle.stream_reader.specs.Reader.{units_bytes}

-- so many bytes of the piece go behind the units of the batch and the bytes that wait, of which these wait then
pub record PushesBytes (old new : BatchState) (begun begun_new piece : List ℕ) (used : ℕ) : Type 0 where
  pub within : used ≤ length piece
  pub bytes : units_bytes new.units begun_new ≡ units_bytes old.units begun ++ take used piece
  pub fit : AreUnits old.units → AreUnits new.units
  pub room : new.room ≡ old.room
