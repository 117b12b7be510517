use Rattle.std.proofs.Common.{◌≡◌, ◌*◌, length, take}
use Rattle.std.specs.List.{flat_map}
use Rattle.lsn_space.specs.Unit.{unit_bytes}
use Rattle.log_record.proofs.note.bytes_in.Given as goal

abbrev pub invariant-units : goal.invariant-units
invariant-units l = record {
  bytes : l.bytes.items ≡ flat_map unit_bytes (take l.unit-index l.units);
  len : length l.bytes.items ≡ 8 * l.unit-index;
}
