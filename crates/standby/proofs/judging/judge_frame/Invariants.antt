use Rattle.std.proofs.Common.{◌≡◌, ◌≤◌, ◌-◌, List, length}
use Rattle.log_record.specs.declared.rec.Rec.{Rec}
use Rattle.log_record.specs.LogList.{AreUnitsOf}
use Rattle.log_recovery.specs.Opened.{OpenedList, list_end}
use Rattle.standby.specs.TakenList.{HasTakenList}
use Rattle.standby.proofs.JudgedFrames.{HasTakenTo}
use Rattle.standby.proofs.judging.judge_frame.Given as goal

abbrev pub invariant-records : goal.invariant-records
invariant-records l = record {
  within : l.at ≤ length l.batch.units;
  taken : (list : OpenedList) (records : List Rec) → HasTakenList list l.fn.judge → l.from ≡ list_end list
      → AreUnitsOf l.batch.units records
      → HasTakenTo list records l.at l.batch.units l.judge;
}

abbrev pub decreases-records : goal.decreases-records
decreases-records l = length l.batch.units - l.at
