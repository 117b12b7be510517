use Rattle.std.proofs.Common.{◌-◌}
use Rattle.lsn_space.specs.declared.lsn.TheConstants.{LAST}
use Rattle.ring_buffer.proofs.Exposing.{Exposes}
use Rattle.ring_buffer.proofs.releasing.expose.Given as goal

abbrev pub invariant-raises : goal.invariant-raises
invariant-raises l = Exposes l.fn.seat l.seat l.at

abbrev pub decreases-raises : goal.decreases-raises
decreases-raises l = LAST - l.at
