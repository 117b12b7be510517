use Rattle.std.proofs.Common.{rules, tests}
use Rattle.cli_threads.proofs.scope.drain.Goals as goal

pub run_until_drained-requires-clause-ready : goal.run_until_drained-requires-clause-ready
run_until_drained-requires-clause-ready g c = c.requires.ready (search (tests, rules) steps 300000)
