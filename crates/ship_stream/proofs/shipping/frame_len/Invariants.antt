use Rattle.std.proofs.Common.{length}
use Rattle.ship_stream.proofs.ShippingLemmas.{IsGathering}
use Rattle.ship_stream.proofs.shipping.frame_len.Given as goal

abbrev pub invariant-records : goal.invariant-records
invariant-records l = IsGathering l.units l.len l.rest

abbrev pub decreases-records : goal.decreases-records
decreases-records l = length l.rest
