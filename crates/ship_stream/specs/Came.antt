-- What of a stream has come, and where it goes wrong.
use Rattle.std.specs.Prelude.{◌≡◌, ◌<◌, ◌≤◌, ℕ, ◌+◌, ◌*◌, List, ◌++◌, length}
use Rattle.std.specs.Int.{w32, to_be_bytes}
use Rattle.lsn_space.specs.declared.lsn.TheConstants.{LAST}
use Rattle.log_record.specs.declared.rec.Rec.{Rec}
use Rattle.ship_stream.specs.Stream.{end_bytes, frames_end, HasFrames, IsStream, HasNoHead, HasNoFrame, HasNoEnd}
use Rattle.ship_stream.specs.declared.layout.TheConstants.{HEAD_BYTES, COUNT_BYTES, MOST_FRAME_UNITS}

-- no whole head yet; a head with its LSN, and these whole frames; or all, the end too
pub data Came : Type 0 where
  NoHead : Came
  Open : ℕ → List (List Rec) → Came
  Whole : ℕ → List (List Rec) → Came

-- the end has come
abbrev pub IsWhole : Came → Type 0
IsWhole (Whole first frames) = Unit {0}
IsWhole came = ⊥

-- less than a frame or the end: less than a count, or a count that a frame at this LSN may have, and fewer units than it says
pub data IsBegun (lsn : ℕ) (rest : List ℕ) : Type 0 where
  count_begun : length rest < COUNT_BYTES → IsBegun lsn rest
  units_begun : (count : ℕ) (body : List ℕ) → 0 < count → count ≤ MOST_FRAME_UNITS → lsn + count ≤ LAST
      → rest ≡ to_be_bytes w32 count ++ body → length body < 8 * count → IsBegun lsn rest

-- so much of a stream are the bytes, and nothing that is whole is left over
abbrev pub HasCome : List ℕ → Came → Type 0
HasCome bytes NoHead = length bytes < HEAD_BYTES
HasCome bytes (Open first frames) = (rest : List ℕ) × HasFrames bytes first frames rest × IsBegun (frames_end first frames) rest
HasCome bytes (Whole first frames) = IsStream bytes first frames

-- Behind what has come, the first part that is cut or outside the grammar, and its place: the head at 0; behind whole frames what is
-- neither a frame nor the end; behind the end the first byte. The bytes are all that there are.
abbrev pub IsBadBehind : Came → List ℕ → ℕ → Type 0
IsBadBehind NoHead bytes offset = HasNoHead bytes × (offset ≡ 0)
IsBadBehind (Open first frames) bytes offset = (rest : List ℕ) × HasFrames bytes first frames rest
    × HasNoFrame (frames_end first frames) rest × HasNoEnd rest × (offset + length rest ≡ length bytes)
IsBadBehind (Whole first frames) bytes offset = (behind : List ℕ) × HasFrames bytes first frames (end_bytes ++ behind)
    × (0 < length behind) × (offset + length behind ≡ length bytes)

-- the bytes are no stream, and the first bad part is at this place
abbrev pub IsBadStream : List ℕ → ℕ → Type 0
IsBadStream bytes offset = (came : Came) × IsBadBehind came bytes offset
