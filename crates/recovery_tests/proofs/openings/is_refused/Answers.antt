use Rattle.std.proofs.Common.{[], arith}
use Rattle.lock_core.specs.Witness.{cut}
use Rattle.recovery_tests.proofs.openings.is_refused.Goals as goal

pub take-requires-clause-taken : goal.take-requires-clause-taken
take-requires-clause-taken g c = let start = c.new-2.ensures in (cut, [], c.in-Ok.ensures, omega arith)
