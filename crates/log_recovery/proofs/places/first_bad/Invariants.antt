use Rattle.std.proofs.Common.{length}
use Rattle.log_recovery.specs.ListedRecords.{IsFront}
use Rattle.log_recovery.proofs.places.first_bad.Given as goal

abbrev pub invariant-records : goal.invariant-records
invariant-records l = record {
  units : IsFront l.units l.rest;
  front : IsFront l.front l.rest;
}

abbrev pub decreases-records : goal.decreases-records
decreases-records l = length l.rest
