-- How a reader goes on.
use Rattle.std.specs.Prelude.{◌≡◌, ◌<◌, ◌≤◌, ℕ, List, [], ◌∷◌, ◌++◌, length, take, Result, IfOk, IfErr}
use Rattle.log_record.specs.declared.rec.Rec.{Rec}
use Rattle.log_record.specs.LogList.{units_of}
use Rattle.ship_stream.specs.Came.{Came, IsBadBehind}
use Rattle.ship_stream.specs.Came.Came.{NoHead, Open, Whole}
use Rattle.ship_stream.specs.Stream.{IsFrame}
use Rattle.stream_reader.specs.Reader.{HasRead}
use Rattle.stream_reader.specs.declared.reader.BadStream.{BadStream}
use Rattle.stream_reader.specs.declared.reader.Part.{Part}
use Rattle.stream_reader.specs.declared.reader.Part.TheVariants.{More, Head, Frame, End}
use Rattle.stream_reader.specs.declared.reader.StreamReader.{StreamReader}

-- the frame that is whole now, whose units are in the batch
pub record AddsFrame (came : Came) (reader : StreamReader) (bytes : List ℕ) : Type 0 where
  pub first : ℕ
  pub frames : List (List Rec)
  pub before : came ≡ Open first frames
  pub records : List Rec
  pub frame : IsFrame records
  pub units : reader.batch.units ≡ units_of records
  pub read : HasRead reader bytes (Open first (frames ++ records ∷ []))

-- the end is whole now
pub record AddsEnd (came : Came) (reader : StreamReader) (bytes : List ℕ) : Type 0 where
  pub first : ℕ
  pub frames : List (List Rec)
  pub before : came ≡ Open first frames
  pub read : HasRead reader bytes (Whole first frames)

-- what has come of a stream once the reader has read these bytes of it, by what it answers; before, so much had come
abbrev pub Advances : Part → Came → StreamReader → List ℕ → Type 0
Advances More came reader bytes = HasRead reader bytes came
Advances (Head first) came reader bytes = (came ≡ NoHead) × HasRead reader bytes (Open first [])
Advances Frame came reader bytes = AddsFrame came reader bytes
Advances End came reader bytes = AddsEnd came reader bytes

-- how many bytes of a piece were taken: all of it where the part isn't whole, and else some
abbrev pub TakesBytes : Part → ℕ → List ℕ → Type 0
TakesBytes More used piece = used ≡ length piece
TakesBytes part used piece = 0 < used

-- the reader has read bytes of a stream, or none yet; after a fault no clause says so
abbrev pub CanRead : StreamReader → Type 0
CanRead reader = (past : List ℕ) × (came : Came) × HasRead reader past came

-- what a call of `take` answers: how many bytes of the piece it took, and what is whole now; or the fault
pub record Takes (old new : StreamReader) (piece : List ℕ) (result : Result (ℕ × Part) BadStream) : Type 0 where
  pub within : IfOk result (λ r. r.0 ≤ length piece)
  pub used : IfOk result (λ r. TakesBytes r.1 r.0 piece)
  pub part : (past : List ℕ) (came : Came) → HasRead old past came → IfOk result (λ r. Advances r.1 came new (past ++ take r.0 piece))
  pub bad : (past : List ℕ) (came : Came) → HasRead old past came
      → IfErr result (λ e. (more : List ℕ) → IsBadBehind came (past ++ piece ++ more) e.offset)
