use Rattle.std.proofs.Common.{length}
use Rattle.log_recovery.specs.ListedRecords.{IsFront}
use Rattle.source_recovery.proofs.passing.read_records.Given as goal

abbrev pub invariant-records : goal.invariant-records
invariant-records l = IsFront l.units l.rest

abbrev pub decreases-records : goal.decreases-records
decreases-records l = length l.rest
