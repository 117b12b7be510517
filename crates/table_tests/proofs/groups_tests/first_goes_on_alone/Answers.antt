use Rattle.std.proofs.Common.{rules}
use Rattle.table_tests.proofs.groups_tests.first_goes_on_alone.Goals as goal

pub inserts_alone-requires-clause-worker : goal.inserts_alone-requires-clause-worker
inserts_alone-requires-clause-worker g c =
    c.in_ok-alone.ensures.may 3 (search rules) (c.in_ok-first.ensures.goes_on 3 (search rules))
