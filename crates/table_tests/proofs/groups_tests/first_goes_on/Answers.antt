use Rattle.std.proofs.Common.{rules}
use Rattle.table_tests.proofs.groups_tests.first_goes_on.Goals as goal

pub inserts_alone-requires-clause-worker : goal.inserts_alone-requires-clause-worker
inserts_alone-requires-clause-worker g c =
    c.puts-ahead.ensures.may 3 (search rules) (c.in_ok-first-2.ensures.goes_on 3 (c.in_ok-first.ensures.goes_on 3 (search rules)))
