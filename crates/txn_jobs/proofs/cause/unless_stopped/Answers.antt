use Rattle.std.proofs.Common.{refl}
use Rattle.txn_jobs.proofs.cause.unless_stopped.Goals as goal

pub returns-then-word-ne0-clause-stopped : goal.returns-then-word-ne0-clause-stopped
returns-then-word-ne0-clause-stopped c = (refl, c.if-word-ne0.true)

pub returns-clause-stopped : goal.returns-clause-stopped
returns-clause-stopped c = tt
