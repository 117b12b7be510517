use Rattle.std.proofs.Common.{refl}
use Rattle.txn_jobs.proofs.rows.Rows.tell.Goals as goal

pub returns-in-Ok-clause-told : goal.returns-in-Ok-clause-told
returns-in-Ok-clause-told c = rw c.in-Ok.is c.push.ensures.rows

pub returns-in-Err-clause-told : goal.returns-in-Err-clause-told
returns-in-Err-clause-told c = rw c.in-Err.is (refl, refl)
