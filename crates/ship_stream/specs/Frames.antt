-- How the records of a list go into frames.
use Rattle.std.specs.Prelude.{ℕ, ◌+◌, List, [], ◌∷◌, ◌++◌, if◌then◌else◌, nat_le}
use Rattle.std.specs.List.{flat_map}
use Rattle.log_record.specs.declared.rec.Rec.{Rec}
use Rattle.log_record.specs.LogList.{end_of, size_of}
use Rattle.ship_stream.specs.Stream.{head_bytes, frame_bytes, end_bytes}
use Rattle.ship_stream.specs.declared.layout.TheConstants.{SHIPPED_UNITS}

-- the last group, of the records that wait for it, where there are any
abbrev pub last_group : List Rec → List (List Rec)
last_group [] = []
last_group (rec ∷ waiting) = (rec ∷ waiting) ∷ []

-- the records in groups, each of as many whole records as fit into so many units, where these wait for the first
abbrev pub packed_behind : ℕ → List Rec → List Rec → List (List Rec)
packed_behind limit waiting [] = last_group waiting
packed_behind limit waiting (rec ∷ records) =
    if nat_le (end_of waiting + size_of rec) limit then packed_behind limit (waiting ++ rec ∷ []) records
    else waiting ∷ packed_behind limit (rec ∷ []) records

-- the frames in which records are shipped
abbrev pub frames_of : List Rec → List (List Rec)
frames_of records = packed_behind SHIPPED_UNITS [] records

-- the stream in which the records from this LSN on are shipped
abbrev pub stream_of : ℕ → List Rec → List ℕ
stream_of first records = head_bytes first ++ flat_map frame_bytes (frames_of records) ++ end_bytes
