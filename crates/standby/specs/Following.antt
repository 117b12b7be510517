-- What a standby has made of the bytes of a stream that came so far, in whatever pieces. `g` is what a disk shows, `base` is what the
-- standby begins with, and `fed` are the bytes.
use Rattle.std.specs.Prelude.{◌≡◌, ◌≢◌, ◌⊎◌, ℕ, List, [], ◌∷◌, ◌++◌}
use Rattle.log_disk.specs.Faults.{CountsWhere}
use Rattle.log_disk.specs.declared.disk.LogDisk.{Ghosts}
use Rattle.log_record.specs.declared.rec.Rec.{Rec}
use Rattle.log_record.specs.LogList.{units_of}
use Rattle.lock_core.specs.Faults.{IsUnlawfulAt}
use Rattle.log_recovery.specs.Opened.{OpenedList, list_end, opening_before, placed}
use Rattle.log_recovery.specs.Recovery.{HoldsLawful}
use Rattle.ship_stream.specs.Stream.{HasFrames, IsStream}
use Rattle.ship_stream.specs.Came.{Came, IsBadBehind}
use Rattle.ship_stream.specs.Came.Came.{NoHead, Open, Whole}
use Rattle.stream_reader.specs.Reader.{HasRead}
use Rattle.standby.specs.AppliedFrames.{Base, with_frames, HoldsFront, Wrote, HasApplied}
use Rattle.standby.specs.declared.standby.Fed.{Fed}
use Rattle.standby.specs.declared.standby.Fed.TheVariants.{More, Ended}
use Rattle.standby.specs.declared.standby.Standby.{Standby}
use Rattle.standby.specs.declared.fault.StandbyFault.{StandbyFault}
use Rattle.standby.specs.declared.fault.StandbyFault.TheVariants.{BadStream, Gap, StreamUnlawful, DiskFault, NoMemory}

-- the whole frames that have come
abbrev pub whole_frames : Came → List (List Rec)
whole_frames NoHead = []
whole_frames (Open first frames) = frames
whole_frames (Whole first frames) = frames

-- the stream, as far as it has come, goes on where the list ends
abbrev pub GoesOn : OpenedList → Came → Type 0
GoesOn list NoHead = Unit {0}
GoesOn list (Open first frames) = first ≡ list_end list
GoesOn list (Whole first frames) = first ≡ list_end list

-- all of the stream has come, and nothing behind it
abbrev pub HasEnded : List ℕ → Type 0
HasEnded fed = (first : ℕ) × (frames : List (List Rec)) × IsStream fed first frames

-- the answer to a piece: whether the stream has ended
abbrev pub TellsEnd : List ℕ → Fed → Type 0
TellsEnd fed More = HasEnded fed → ⊥
TellsEnd fed Ended = HasEnded fed

-- each whole frame that has come was judged and applied, and the reader waits for the next part
pub record Follows {D : Type 0} (g : Ghosts D) (base : Base D) (fed : List ℕ) (s : Standby D) : Type 0 where
  pub came : Came
  pub read : HasRead s.reader fed came
  pub goes_on : GoesOn base.list came
  pub applied : HasApplied g base (whole_frames came) s.judge s.tail s.disk.now

-- from some beginning it follows the bytes of a stream
abbrev pub IsFollowing : {D : Type 0} → Ghosts D → Standby D → Type 0
IsFollowing {D} g s = (base : Base D) × (fed : List ℕ) × Follows g base fed s

-- its disk is the same
abbrev pub KeepsDisk : {D : Type 0} → Standby D → Standby D → Type 0
KeepsDisk old new = new.disk.ghost_name ≡ old.disk.ghost_name

-- The reader holds this frame, the last of the whole ones that have come. Those before it were judged and applied.
pub record HasFrame {D : Type 0} (g : Ghosts D) (base : Base D) (fed : List ℕ) (frames : List (List Rec)) (records : List Rec)
    (s : Standby D)
    : Type 0 where
  pub read : HasRead s.reader fed (Open (list_end base.list) (frames ++ records ∷ []))
  pub holds : s.reader.batch.units ≡ units_of records
  pub applied : HasApplied g base frames s.judge s.tail s.disk.now

-- these are the first whole frames of a stream that goes on where the list ends, or none
abbrev pub BeginsWithFrames : List ℕ → OpenedList → List (List Rec) → Type 0
BeginsWithFrames fed list frames = (frames ≡ []) ⊎ ((rest : List ℕ) × HasFrames fed (list_end list) frames rest)

-- the bytes of an image hold the list with the records of the first frames of the stream, and that is lawful
pub record HoldsFollowed (list : OpenedList) (fed bytes : List ℕ) : Type 0 where
  pub frames : List (List Rec)
  pub begins : BeginsWithFrames fed list frames
  pub holds : HoldsLawful bytes (with_frames list frames)

-- Why the standby stopped behind these frames, which it applied, with this one, or none, in flight. A part that is cut or outside the
-- grammar comes right behind the frames, whatever follows; a stream that doesn't go on where the list ends is told of before its first
-- frame; of the next frame the record at this LSN is the first that fails a test.
abbrev pub IsReason : OpenedList → List ℕ → List (List Rec) → List (List Rec) → StandbyFault → Type 0
IsReason list fed frames cut (BadStream offset) = (cut ≡ [])
    × ((came : Came) × (whole_frames came ≡ frames) × GoesOn list came × ((more : List ℕ) → IsBadBehind came (fed ++ more) offset))
IsReason list fed frames cut (Gap have from) = (cut ≡ []) × (frames ≡ []) × (have ≡ list_end list) × (from ≢ have)
    × ((rest : List ℕ) × HasFrames fed from [] rest)
IsReason list fed frames cut (StreamUnlawful lsn why) = (cut ≡ [])
    × ((frame : List Rec) × (rest : List ℕ) × HasFrames fed (list_end list) (frames ++ frame ∷ []) rest
    × IsUnlawfulAt (opening_before list) (placed (with_frames list (frames ++ frame ∷ []))) lsn why)
IsReason list fed frames cut DiskFault = (frame : List Rec) × (rest : List ℕ) × (cut ≡ frame ∷ [])
    × HasFrames fed (list_end list) (frames ++ cut) rest
IsReason list fed frames cut NoMemory = cut ≡ []

-- At the fault the frames before were applied, and stay. Each image holds them, and, whole or not at all, one that the disk failed to
-- take. One fault is counted where the disk failed, and else none.
pub record Stops {D : Type 0} (g : Ghosts D) (base : Base D) (fed : List ℕ) (fault : StandbyFault) (disk : D) : Type 0 where
  pub frames : List (List Rec)
  pub cut : List (List Rec)
  pub reason : IsReason base.list fed frames cut fault
  pub begins : BeginsWithFrames fed base.list (frames ++ cut)
  pub images : g.honest base.disk → (c : List ℕ) → g.images disk c → HoldsFront (with_frames base.list frames) cut c
  pub wrote : Wrote g base (frames ++ cut) disk
  pub faults : CountsWhere (fault ≡ DiskFault) (g.faults base.disk) (g.faults disk)

-- it stops where these bytes come behind those that it followed
abbrev pub StopsBehind : {D : Type 0} → Ghosts D → Standby D → List ℕ → StandbyFault → D → Type 0
StopsBehind {D} g s bytes fault disk = (base : Base D) (fed : List ℕ) → Follows g base fed s → Stops g base (fed ++ bytes) fault disk

-- the stream has ended here: each of its frames was applied, and the judge has the accounts of the whole list
pub record HasFollowed {D : Type 0} (g : Ghosts D) (base : Base D) (fed : List ℕ) (lsn : ℕ) (s : Standby D) : Type 0 where
  pub first : ℕ
  pub frames : List (List Rec)
  pub ended : IsStream fed first frames
  pub goes_on : first ≡ list_end base.list
  pub applied : HasApplied g base frames s.judge s.tail s.disk.now
  pub lsn_is : lsn ≡ list_end (with_frames base.list frames)
