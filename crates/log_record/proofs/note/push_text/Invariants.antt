use Rattle.std.proofs.Common.{◌≡◌, ◌++◌, ◌≤◌, ◌+◌, length, take, map}
use Rattle.lsn_space.specs.Unit.{unit_value}
use Rattle.log_record.proofs.note.push_text.Given as goal

abbrev pub invariant-chunks : goal.invariant-chunks
invariant-chunks l = record {
  pushed : l.units ≡ l.fn.units ++ map unit_value (take l.chunk-index l.chunks);
  room : length l.units ≤ 1 + l.chunk-index;
}
