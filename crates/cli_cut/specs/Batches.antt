-- How the records of a new log go into batches.
use Rattle.std.specs.Prelude.{ℕ, List, [], map}
use Rattle.log_record.specs.declared.rec.Rec.{Rec}
use Rattle.log_record.specs.LogList.{units_of}
use Rattle.segment_file.specs.declared.layout.TheConstants.{MOST_UNITS}
use Rattle.ship_stream.specs.Frames.{packed_behind}

-- the units of the batches that all records go into, each of as many whole records as fit
abbrev pub batches_of : List Rec → List (List ℕ)
batches_of records = map units_of (packed_behind MOST_UNITS [] records)
