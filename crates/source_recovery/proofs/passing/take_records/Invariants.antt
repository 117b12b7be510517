use Rattle.std.proofs.Common.{ℕ, List, length}
use Rattle.lsn_space.specs.Opening.{Opening}
use Rattle.log_recovery.specs.JudgedUnits.{HasTakenFront}
use Rattle.log_recovery.specs.ListedRecords.{EndsWith}
use Rattle.source_recovery.specs.Passing.{CanTake}
use Rattle.source_recovery.proofs.passing.take_records.Given as goal

abbrev pub invariant-records : goal.invariant-records
invariant-records g l = record {
  ends : EndsWith l.units l.rest;
  taken : (asked : ℕ) (opening : Opening) (all : List ℕ) → CanTake (g.T.TakesAsked.has_taken asked) opening all l.units l.first l.fn.taker
      → HasTakenFront (g.T.TakesAsked.has_taken asked) opening all l.rest l.taker;
}

abbrev pub decreases-records : goal.decreases-records
decreases-records g l = length l.rest
