use Rattle.std.proofs.Common.{◌≡◌, ◌++◌, take}
use Rattle.std.specs.List.{flat_map}
use Rattle.log_disk.specs.Streams.{AppendsBut}
use Rattle.lsn_space.specs.Unit.{unit_bytes}
use Rattle.ship_stream.proofs.shipping.put_units.Given as goal

abbrev pub invariant-units : goal.invariant-units
invariant-units g l = record {
  written : AppendsBut (g.K.Sink.held_bytes l.fn.sink) (g.K.Sink.held_bytes l.sink)
      (l.fn.block ++ flat_map unit_bytes (take l.unit-index l.units)) l.block;
  same : g.K.Sink.faults l.sink ≡ g.K.Sink.faults l.fn.sink;
}
