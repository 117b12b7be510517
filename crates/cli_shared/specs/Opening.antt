-- How a log is opened. `g` is what a disk shows; `old` and `new` are the disk before and after.
use Rattle.std.specs.Prelude.{◌≡◌, ◌≤◌, ◌^◌, ℕ, List, length, ◌+◌, Some, Result, IfOk, IsErrOf, MatchResult, OnOk}
use Rattle.log_disk.specs.Attachment.{MayAttach, existing}
use Rattle.log_disk.specs.Costs.{Costs}
use Rattle.log_disk.specs.declared.disk.LogDisk.{Ghosts}
use Rattle.log_disk.specs.Disk.{IsOnlyImage, Leaves}
use Rattle.log_disk.specs.Faults.{CountsWhere}
use Rattle.log_recovery.specs.declared.recovery.Recovered.{Recovered}
use Rattle.log_recovery.specs.declared.recovery.RecoverFault.TheVariants as fault
use Rattle.log_recovery.specs.Opened.{log_of}
use Rattle.log_recovery.specs.Recovery.{Recovers, IsFaultOf}
use Rattle.segment_file.specs.MostReads.{most_reads}
use Rattle.segment_file.specs.StandingLog.{LogStands, IsStableGate}
use Rattle.segment_file.specs.declared.opening.OpenFault.{OpenFault}
use Rattle.segment_file.specs.declared.opening.OpenFault.TheVariants.{DiskFault}
use Rattle.cli_shared.specs.declared.report.Detail.{Detail}
use Rattle.cli_shared.specs.declared.report.Detail.TheVariants.{NoMemory, Disk, NotALog, BadSnapshot, BadBatch, BadRec, Unlawful}
use Rattle.cli_shared.specs.Looking.{Looks}

-- opening takes at most an attach, a sync, the length, and the reads of all bytes
abbrev pub most_calls : {D : Type 0} → Ghosts D → D → ℕ
most_calls g disk = most_reads (length (g.reads disk)) + 3

-- a read of the disk gives these bytes, where it tells what it gives
abbrev pub MayHold : {D : Type 0} → Ghosts D → D → List ℕ → Type 0
MayHold g disk bytes = g.honest disk → bytes ≡ g.reads disk

-- The file of that name, which has to be there, was opened and read whole. Where that succeeded the result holds its bytes, and a crash
-- leaves them and nothing else.
pub record ReadsImage {D T : Type 0} (g : Ghosts D) (log : List ℕ) (old new : D) (result : Result T OpenFault) (bytes_of : T → List ℕ)
    : Type 0 where
  pub looks : Looks g (most_calls g old) old new
  pub open looks use *
  pub bytes : IfOk result (λ read. MayHold g old (bytes_of read))
  pub settled : g.honest old → OnOk result (IsOnlyImage (g.reads new) (g.images new))
  pub attached : g.honest old → MatchResult result (λ _. g.attached new ≡ Some (existing log))
      (λ _. MayAttach (existing log) (g.attached old) (g.attached new))
  pub faults : CountsWhere (IsErrOf result DiskFault) (g.faults old) (g.faults new)

-- The bytes that were read hold a lawful list, and this is what it says. A crash leaves what was read: each image holds the list, with what
-- stands before it, and goes on at the tail, where each has the same gate.
pub record Opens {D : Type 0} (g : Ghosts D) (opened : Recovered) (old new : D) : Type 0 where
  pub bytes : List ℕ
  pub read : MayHold g old bytes
  pub recovers : Recovers opened bytes
  pub place : opened.tail.at ≤ 2 ^ 63
  pub settled : g.honest old → IsOnlyImage (g.reads new) (g.images new)
  pub within : g.honest old → opened.tail.at ≤ length (g.reads new)
  pub stand : g.honest old → LogStands opened.tail (log_of recovers.list) (g.images new)
  pub gate : g.honest old → IsStableGate opened.tail.at (g.images new)

-- why these bytes are opened as no log; a fault of the disk and want of memory say nothing of them
abbrev pub IsOpeningFault : List ℕ → Detail → Type 0
IsOpeningFault bytes NotALog = IsFaultOf bytes fault.NotALog
IsOpeningFault bytes BadSnapshot = IsFaultOf bytes fault.BadSnapshot
IsOpeningFault bytes (BadBatch offset) = IsFaultOf bytes (fault.BadBatch offset)
IsOpeningFault bytes (BadRec lsn) = IsFaultOf bytes (fault.BadRec lsn)
IsOpeningFault bytes (Unlawful lsn why) = IsFaultOf bytes (fault.Unlawful lsn why)
IsOpeningFault bytes Disk = Unit {0}
IsOpeningFault bytes NoMemory = Unit {0}
IsOpeningFault bytes detail = ⊥

-- why the disk's log isn't opened
abbrev pub HasOpeningFault : {D : Type 0} → Ghosts D → D → Detail → Type 0
HasOpeningFault g disk detail = (bytes : List ℕ) × MayHold g disk bytes × IsOpeningFault bytes detail

-- the disk was only attached, synced and read
pub record OnlyLooks {D : Type 0} (g : Ghosts D) (old new : D) : Type 0 where
  pub images : Leaves g.moment g.images_since (g.images old) old new
  pub reads : g.reads new ≡ g.reads old
  pub count : Costs g 1 (most_calls g old) old new
