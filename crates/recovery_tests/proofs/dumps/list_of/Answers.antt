use Rattle.recovery_tests.proofs.dumps.list_of.Goals as goal

pub returns-in-Ok : goal.returns-in-Ok
returns-in-Ok c = (c.in-Ok.ensures.found.records, c.in-Ok.ensures.found.has)
