use Rattle.std.proofs.Common.{arith}
use Rattle.daemon_tests.proofs.daemon_tests.transfer.Goals as goal

pub enlisted-requires-clause-mark : goal.enlisted-requires-clause-mark
enlisted-requires-clause-mark g c = omega (arith, c.in-Some.ensures.workers)
