use Rattle.txn_runner.proofs.TyingLemmas.{no-job-twice}
use Rattle.txn_runner.proofs.laws.no_job_twice.Goals as goal

pub returns : goal.returns
returns c = no-job-twice
