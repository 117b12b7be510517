use Rattle.std.proofs.Common.{◌≡◌, ◌≤◌, length}
use Rattle.stream_reader.proofs.UnitLemmas.{IsPushing}
use Rattle.stream_reader.proofs.units.push_whole.Given as goal

abbrev pub invariant-units : goal.invariant-units
invariant-units l = record {
  pushing : IsPushing l.fn.batch.units l.batch.units l.piece l.rest;
  most : length l.batch.units ≤ l.count;
  room : l.batch.room ≡ l.fn.batch.room;
}

abbrev pub decreases-units : goal.decreases-units
decreases-units l = length l.rest
