use Rattle.std.proofs.Common.{arith}
use Rattle.daemon_tests.proofs.relief_tests.looks_and_flushes.Goals as goal

pub works-worked-requires-clause-relief : goal.works-worked-requires-clause-relief
works-worked-requires-clause-relief g c = ((λ _. c.requires.daemon), c.requires.looker, omega (arith, c.requires.accounts))
