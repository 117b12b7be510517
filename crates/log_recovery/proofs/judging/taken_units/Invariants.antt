use Rattle.std.proofs.Common.{length}
use Rattle.log_recovery.specs.JudgedUnits.{HasTakenFront}
use Rattle.log_recovery.proofs.judging.taken_units.Given as goal

abbrev pub invariant-records : goal.invariant-records
invariant-records g l = HasTakenFront g.T.TakesRecords.has_taken l.opening l.units l.rest l.taker

abbrev pub decreases-records : goal.decreases-records
decreases-records g l = length l.rest
