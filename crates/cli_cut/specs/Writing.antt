-- What the writing of a new log asks for, and what it does. `g` is what a disk shows; `head` is what the log begins with, and `units` those of its records.
use Rattle.std.specs.Prelude.{◌≡◌, ◌≤◌, ◌↔◌, ℕ, ◌+◌, ◌*◌, List, [], length, Result, OnOk}
use Rattle.log_disk.specs.Costs.{Costs}
use Rattle.log_disk.specs.Disk.{Leaves}
use Rattle.log_disk.specs.Faults.{HasCause}
use Rattle.log_disk.specs.Lengths.{GrowsAtMostTo}
use Rattle.log_disk.specs.declared.disk.LogDisk.{Ghosts}
use Rattle.lsn_space.specs.Opening.{Opening}
use Rattle.lsn_space.specs.declared.lsn.TheConstants.{LAST}
use Rattle.log_record.specs.declared.rec.Rec.{Rec}
use Rattle.log_record.specs.LogList.{AreUnitsOf}
use Rattle.log_recovery.specs.Opened.{OpenedList, log_of}
use Rattle.segment_file.specs.PackedBatch.{BatchState}
use Rattle.segment_file.specs.StandingLog.{IsStableGate}
use Rattle.segment_file.specs.declared.layout.TheConstants.{MOST_UNITS}
use Rattle.segment_cut.specs.Underway.{HoldsBatches, HoldsNoneOrBatches}
use Rattle.cli_cut.specs.Batches.{batches_of}

-- the units are those of records, and fit behind the head; the batch is empty and has room for the longest, and no first gate is open
pub record CanWriteLog {D : Type 0} (g : Ghosts D) (head : Opening) (units : List ℕ) (batch : BatchState) (old : D) : Type 0 where
  pub stable : g.honest old → IsStableGate 0 (g.images old)
  pub records : (records : List Rec) × AreUnitsOf units records
  pub fits : head.lsn + length units ≤ LAST
  pub none : batch.units ≡ []
  pub room : batch.room ≡ MOST_UNITS

-- at each moment a crash leaves no log or the new one, and after Ok the new one; and what that costs, and how long the file gets
pub record WritesLog {D T E : Type 0} (g : Ghosts D) (head : Opening) (units : List ℕ) (old new : D) (result : Result T E) : Type 0 where
  pub moments : g.honest old → (made : OpenedList) → made.opening ≡ head → AreUnitsOf units made.records
      → Leaves g.moment g.images_since (HoldsNoneOrBatches (log_of made) (batches_of made.records)) old new
  pub made : g.honest old → OnOk result ((made : OpenedList) → made.opening ≡ head → AreUnitsOf units made.records
      → (c : List ℕ) → g.images new c → HoldsBatches (log_of made) (batches_of made.records) c)
  pub count : g.honest old → (records : List Rec) → AreUnitsOf units records
      → Costs g (6 + length (batches_of records)) (7 + length (batches_of records)) old new
  pub grows : g.honest old → (records : List Rec) → AreUnitsOf units records
      → GrowsAtMostTo g (21 + 12 * length head.accounts + 5 * length (batches_of records) + 8 * length units) old new
  pub later : g.moment old ≤ g.moment new
  pub honest : g.honest old ↔ g.honest new
  pub attached : g.attached new ≡ g.attached old
  pub cause : HasCause (g.faults old) (g.faults new) result
