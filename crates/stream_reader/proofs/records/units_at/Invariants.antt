use Rattle.std.proofs.Common.{◌≡◌, take, drop}
use Rattle.stream_reader.proofs.records.units_at.Given as goal

abbrev pub invariant-units : goal.invariant-units
invariant-units l = l.units ≡ take l.index (drop l.at l.batch.units)
