-- What a crash may leave of a log that followed a stream. `g` is what a disk shows; `old` and `new` are the disk before and after.
use Rattle.std.specs.Prelude.{◌≤◌, ℕ, List}
use Rattle.log_disk.specs.Disk.{Leaves}
use Rattle.log_disk.specs.declared.disk.LogDisk.{Ghosts}
use Rattle.log_record.specs.declared.rec.Rec.{Rec}
use Rattle.log_recovery.specs.Opened.{OpenedList}
use Rattle.log_recovery.specs.Recovery.{HoldsLawful}
use Rattle.standby.specs.AppliedFrames.{HoldsFront}
use Rattle.cli_shared.specs.Opening.{OnlyLooks}

-- What a crash might have left at each moment: until this list was opened, an image of before; from then on, when the disk was this, the
-- list with a prefix of these frames.
pub record LeavesFronts {D : Type 0} (g : Ghosts D) (opened : OpenedList) (frames : List (List Rec)) (old new : D) : Type 0 where
  pub disk : D
  pub looks : OnlyLooks g old disk
  pub each : (c : List ℕ) → g.images disk c → HoldsLawful c opened
  pub moments : Leaves g.moment g.images_since (HoldsFront opened frames) disk new

-- Up to a moment, when the disk was this, it was only looked at. Whatever a crash might have left since holds a lawful list.
pub record StaysALog {D : Type 0} (g : Ghosts D) (old new : D) : Type 0 where
  pub disk : D
  pub looks : OnlyLooks g old disk
  pub later : g.moment disk ≤ g.moment new
  pub each : (c : List ℕ) → g.images_since new (g.moment disk) c → (list : OpenedList) × HoldsLawful c list
