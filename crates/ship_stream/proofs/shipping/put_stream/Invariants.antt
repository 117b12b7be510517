use Rattle.std.proofs.Common.{◌≡◌, length}
use Rattle.ship_stream.proofs.ShippingLemmas.{IsShipping}
use Rattle.ship_stream.proofs.shipping.put_stream.Given as goal

abbrev pub invariant-frames : goal.invariant-frames
invariant-frames g l = record {
  shipping : IsShipping l.fn.from l.units l.rest l.block (g.K.Sink.held_bytes l.fn.sink) (g.K.Sink.held_bytes l.sink);
  same : g.K.Sink.faults l.sink ≡ g.K.Sink.faults l.fn.sink;
}

abbrev pub decreases-frames : goal.decreases-frames
decreases-frames g l = length l.rest
