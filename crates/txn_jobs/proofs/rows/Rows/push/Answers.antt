use Rattle.txn_jobs.proofs.rows.Rows.push.Goals as goal

pub returns-clause-rows : goal.returns-clause-rows
returns-clause-rows c = c.push_reserved.ensures.items
