use Rattle.std.proofs.Common.{◌≡◌, ◌++◌, take}
use Rattle.cli_cut.proofs.writing.push_all.Given as goal

abbrev pub invariant-units : goal.invariant-units
invariant-units l = record {
  added : l.batch.units ≡ l.fn.batch.units ++ take l.unit-index l.units;
  room : l.batch.room ≡ l.fn.batch.room;
}
