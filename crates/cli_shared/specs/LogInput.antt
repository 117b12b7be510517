-- A log that is read from an input. `left` and `left_new` are what the input holds before and after.
use Rattle.std.specs.Prelude.{◌≡◌, List, ℕ, Option}
use Rattle.log_record.specs.declared.rec.Placed.{Placed}
use Rattle.lock_core.specs.Sums.{Opening}
use Rattle.log_recovery.specs.declared.list_result.Listed.{Listed}
use Rattle.log_recovery.specs.Recovery.{TakesBytes}
use Rattle.log_disk.specs.Streams.{ReadsAll}
use Rattle.source_recovery.specs.Recovery.{IsSourceFaultOf}
use Rattle.source_recovery.specs.declared.recovery.SourceFault.{SourceFault}
use Rattle.source_recovery.specs.declared.recovery.SourceFault.TheVariants.{Failed}
use Rattle.cli_shared.specs.Answers.{IsSourceFault}
use Rattle.cli_shared.specs.declared.report.Detail.{Detail}
use Rattle.cli_shared.specs.declared.report.Detail.TheVariants.{Read}

-- what was read is a log, and its list is taken
abbrev pub ReadsTaken : {T : Type 0} → (Opening → T → List Placed → Type 0) → Option (List ℕ) → Option (List ℕ) → T → Listed → Type 0
ReadsTaken HasTaken left left_new taker listed = (bytes : List ℕ) × ReadsAll left left_new bytes × TakesBytes HasTaken taker listed bytes

-- a source's fault is told: it says as much of the bytes, and is a failed read where the source's is one, and only there
pub record TellsSource (fault : SourceFault) (detail : Detail) : Type 0 where
  pub is : (left left_new : Option (List ℕ)) → IsSourceFaultOf left left_new fault → IsSourceFault left left_new detail
  pub failed : fault ≡ Failed → detail ≡ Read
  pub only : detail ≡ Read → fault ≡ Failed
