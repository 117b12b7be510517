-- A list that a judge has taken, that each image of a disk holds, and at whose end the log goes on. `g` is what a disk shows.
use Rattle.std.specs.Prelude.{◌≡◌, ◌+◌, ◌*◌, ◌^◌, ◌≤◌, ℕ, List}
use Rattle.std.specs.List.{AllByRecursion}
use Rattle.log_disk.specs.declared.disk.LogDisk.{Ghosts}
use Rattle.log_record.specs.Spelling.{IsSpellable}
use Rattle.log_record.specs.declared.rec.Rec.{Rec}
use Rattle.lock_core.specs.Faults.{IsUnlawfulAt}
use Rattle.lock_core.specs.AccountRows.{opening_of}
use Rattle.lock_core.specs.Taking.{HasJudged}
use Rattle.lock_core.specs.declared.judge.Judge.{Judge}
use Rattle.lock_core.specs.declared.reason.JudgeFault.{JudgeFault}
use Rattle.lock_core.specs.declared.reason.JudgeFault.TheVariants as judge
use Rattle.log_recovery.specs.Opened.{OpenedList, log_of, list_end, opening_before, placed, with_records}
use Rattle.segment_file.specs.StandingLog.{LogStands, IsShut}
use Rattle.segment_file.specs.declared.scan_result.Tail.{Tail}
use Rattle.standby.specs.declared.fault.StandbyFault.{StandbyFault}
use Rattle.standby.specs.declared.fault.StandbyFault.TheVariants.{StreamUnlawful, NoMemory}

-- the judge has taken the records of the list, so it is lawful
abbrev pub HasTakenList : OpenedList → Judge → Type 0
HasTakenList list judge = HasJudged (opening_of list.opening) judge (placed list)

-- Why the records of a frame behind the list aren't taken: one of them is the first that fails a test. Want of memory says nothing of
-- them, and the other faults have other causes.
abbrev pub IsFrameFault : OpenedList → List Rec → StandbyFault → Type 0
IsFrameFault list records (StreamUnlawful lsn why) = IsUnlawfulAt (opening_before list) (placed (with_records list records)) lsn why
IsFrameFault list records NoMemory = Unit {0}
IsFrameFault list records fault = ⊥

-- why the stream isn't applied, where the judge doesn't take the record at this LSN
abbrev pub record_fault : ℕ → JudgeFault → StandbyFault
record_fault lsn (judge.Why why) = StreamUnlawful lsn why
record_fault lsn judge.NoMemory = NoMemory

-- the judge has taken the list, and each image holds it and goes on at the tail, where the gate is shut
pub record KeepsList {D : Type 0} (g : Ghosts D) (list : OpenedList) (judge : Judge) (tail : Tail) (disk : D) : Type 0 where
  pub each : AllByRecursion IsSpellable list.records
  pub taken : HasTakenList list judge
  pub next : tail.next ≡ list_end list
  pub place : tail.at ≤ 2 ^ 63 + 16 * tail.next
  pub stands : g.honest disk → LogStands tail (log_of list) (g.images disk)
  pub shut : g.honest disk → IsShut tail.at (g.images disk)
