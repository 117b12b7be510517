use Rattle.std.proofs.Common.{rules, arith, subst, sym}
use Rattle.ring_core.specs.LogView.{log_in}
use Rattle.ring_core.specs.RingLog.{RingLog, IsLogBoundary}
use Rattle.ring_core.proofs.LogKeeping.{flushed-sound}
use Rattle.ring_core.proofs.ring_log.RingLog.flush.Goals as goal

pub invariant_of-self : goal.invariant_of-self
invariant_of-self c = flushed-sound (log_in c.self.inside) c.units-place.result c.self.invariant record {
  forward = omega arith;
  exposed = omega arith;
  boundary = subst (λ (l : RingLog). IsLogBoundary l c.units-place.result) (sym c.self.view_is) (search rules steps 500000);
}
