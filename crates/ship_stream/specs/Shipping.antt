-- How a list is shipped, frame by frame.
use Rattle.std.specs.Prelude.{◌≡◌, ◌<◌, ◌≤◌, ℕ, List, ◌∷◌, ◌++◌, length}
use Rattle.log_record.specs.declared.rec.Rec.{Rec}
use Rattle.log_record.specs.LogList.{end_of, AreUnitsOf}
use Rattle.ship_stream.specs.Frames.{frames_of}
use Rattle.ship_stream.specs.declared.layout.TheConstants.{SHIPPED_UNITS}

-- the first frame of a list with these units has so many of them
pub record BeginsFrame (units : List ℕ) (len : ℕ) : Type 0 where
  pub frame : List Rec
  pub left : List Rec
  pub list : AreUnitsOf units (frame ++ left)
  pub first : frames_of (frame ++ left) ≡ frame ∷ frames_of left
  pub count : len ≡ end_of frame
  pub some : 0 < len
  pub short : len ≤ SHIPPED_UNITS
  pub within : len ≤ length units
