use Rattle.std.proofs.Common.{arith}
use Rattle.log_recovery.proofs.BoundaryLemmas.{begins-at-boundary}
use Rattle.log_recovery.proofs.boundaries.units_from.Goals as goal

pub units_behind-requires-clause-known : goal.units_behind-requires-clause-known
units_behind-requires-clause-known c = λ records list. (0, omega (arith, c.begin_of.ensures), begins-at-boundary records)
