-- Whether a log is on a disk. `g` is what a disk shows; `old` and `new` are the disk before and after.
use Rattle.std.specs.Prelude.{ℕ, List, Result, IfErr, IsErrOf, OnOk}
use Rattle.log_disk.specs.Attachment.{existing_or_made}
use Rattle.log_disk.specs.Faults.{CountsWhere}
use Rattle.log_disk.specs.declared.disk.LogDisk.{Ghosts}
use Rattle.segment_file.specs.File.{BeginsOpen}
use Rattle.segment_file.specs.StandingLog.{IsStableGate}
use Rattle.cli_shared.specs.declared.report.Detail.{Detail}
use Rattle.cli_shared.specs.declared.report.Detail.TheVariants.{Disk}
use Rattle.cli_shared.specs.Attached.{EndsAttached}
use Rattle.cli_shared.specs.Creation.{IsFindingFault, TellsWhether}
use Rattle.cli_shared.specs.Looking.{Looks}

-- an attach, a sync, the length and a read
abbrev pub most_finding : ℕ
most_finding = 4

-- The file of that name, which is made where it is missing, was opened and looked at. Where that succeeded the first gate isn't open, and
-- at the return it is the same whatever a crash leaves.
pub record FindsNone {D T : Type 0} (g : Ghosts D) (log : List ℕ) (old new : D) (result : Result T Detail) : Type 0 where
  pub looks : Looks g most_finding old new
  pub open looks use *
  pub closed : g.honest old → OnOk result (BeginsOpen (g.reads old) → ⊥)
  pub gate : g.honest old → OnOk result (IsStableGate 0 (g.images new))
  pub fault : IfErr result IsFindingFault
  pub exists : g.honest old → IfErr result (TellsWhether (BeginsOpen (g.reads old)))
  pub attached : g.honest old → EndsAttached (existing_or_made log) (g.attached old) (g.attached new) result
  pub disk : CountsWhere (IsErrOf result Disk) (g.faults old) (g.faults new)
