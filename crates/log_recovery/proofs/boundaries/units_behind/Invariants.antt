use Rattle.std.proofs.Common.{length}
use Rattle.log_recovery.proofs.BoundaryLemmas.{Seeks}
use Rattle.log_recovery.proofs.boundaries.units_behind.Given as goal

abbrev pub invariant-records : goal.invariant-records
invariant-records l = Seeks l.opening.lsn l.units l.rest l.at l.goal

abbrev pub decreases-records : goal.decreases-records
decreases-records l = length l.rest
