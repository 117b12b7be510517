use Rattle.table_tests.proofs.groups_tests.hears.Goals as goal

pub returns-clause-goes_on : goal.returns-clause-goes_on
returns-clause-goes_on g c next may = c.in-Ok.ensures.goes_on next (c.lead_if_first.ensures.goes_on next may)
