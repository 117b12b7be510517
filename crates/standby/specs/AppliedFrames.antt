-- What the frames of a stream do to a log and its disk. A frame is a list of records. `g` is what a disk shows, and `base` is what a
-- standby begins with.
use Rattle.std.specs.Prelude.{◌≡◌, ℕ, ◌+◌, ◌*◌, ◌≤◌, ◌↔◌, List, ◌++◌, length}
use Rattle.log_disk.specs.Costs.{Costs}
use Rattle.log_disk.specs.Disk.{Leaves}
use Rattle.log_disk.specs.Lengths.{GrowsAtMostTo}
use Rattle.log_disk.specs.declared.disk.LogDisk.{Ghosts}
use Rattle.log_record.specs.declared.rec.Rec.{Rec}
use Rattle.log_record.specs.LogList.{end_of}
use Rattle.lock_core.specs.declared.judge.Judge.{Judge}
use Rattle.log_recovery.specs.Opened.{OpenedList, with_records}
use Rattle.log_recovery.specs.Recovery.{HoldsLawful}
use Rattle.segment_file.specs.declared.scan_result.Tail.{Tail}
use Rattle.ship_stream.specs.Stream.{records_of}
use Rattle.standby.specs.TakenList.{KeepsList}

-- what a standby begins with: the list of the opened log, where the log goes on in its file, and the disk
pub record Base (D : Type 0) : Type 0 where
  pub list : OpenedList
  pub at : ℕ
  pub disk : D

-- the list with the records of these frames behind its own
abbrev pub with_frames : OpenedList → List (List Rec) → OpenedList
with_frames list frames = with_records list (records_of frames)

-- where a log goes on that went on here, behind a batch for each of these frames: a batch takes 5 bytes, and 8 for each unit
abbrev pub place_behind : ℕ → List (List Rec) → ℕ
place_behind at frames = at + 5 * length frames + 8 * end_of (records_of frames)

-- the bytes hold the list with the records of a prefix of these frames, and that is lawful
pub record HoldsFront (list : OpenedList) (frames : List (List Rec)) (bytes : List ℕ) : Type 0 where
  pub front : List (List Rec)
  pub rest : List (List Rec)
  pub whole : frames ≡ front ++ rest
  pub holds : HoldsLawful bytes (with_frames list front)

-- Only these frames came to the disk, each as one batch: at every moment each image holds the list with a prefix of them. At most 4
-- calls were made for each, and the file ends at most behind them and the next gate, where it wasn't longer before.
pub record Wrote {D : Type 0} (g : Ghosts D) (base : Base D) (frames : List (List Rec)) (disk : D) : Type 0 where
  pub moments : g.honest base.disk → Leaves g.moment g.images_since (HoldsFront base.list frames) base.disk disk
  pub count : g.honest base.disk → Costs g (4 * length frames) (4 * length frames) base.disk disk
  pub grows : g.honest base.disk → GrowsAtMostTo g (place_behind base.at frames + 1) base.disk disk
  pub later : g.moment base.disk ≤ g.moment disk
  pub honest : g.honest base.disk ↔ g.honest disk
  pub attached : g.attached disk ≡ g.attached base.disk

-- these frames were judged and applied: each image holds the list with all of them
pub record HasApplied {D : Type 0} (g : Ghosts D) (base : Base D) (frames : List (List Rec)) (judge : Judge) (tail : Tail) (disk : D) :
    Type 0 where
  pub kept : KeepsList g (with_frames base.list frames) judge tail disk
  pub at : tail.at ≡ place_behind base.at frames
  pub wrote : Wrote g base frames disk
  pub fine : g.faults disk ≡ g.faults base.disk
