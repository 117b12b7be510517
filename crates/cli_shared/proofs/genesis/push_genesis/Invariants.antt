use Rattle.std.proofs.Common.{◌≡◌, ◌++◌, take}
use Rattle.log_record.specs.Spelling.{spelling}
use Rattle.log_record.specs.declared.rec.Rec.TheVariants.{Genesis}
use Rattle.cli_shared.proofs.genesis.push_genesis.Given as goal

abbrev pub invariant-units : goal.invariant-units
invariant-units l = record {
  spelled : l.unit-items ≡ spelling (Genesis l.fn.account l.fn.balance);
  added : l.batch.units ≡ l.fn.batch.units ++ take l.unit-index l.unit-items;
  room : l.batch.room ≡ l.fn.batch.room;
}
