use Rattle.job_queue.proofs.Lending.{IsShared-forks}
use Rattle.job_queue.proofs.PassLemmas.{IsFirst-mark_left}
use Rattle.job_queue.proofs.jobs.Jobs.enlist.Goals as goal

pub another-requires-clause-rule : goal.another-requires-clause-rule
another-requires-clause-rule c = IsShared-forks _ _ c.requires.jobs.first (IsFirst-mark_left _ _ c.requires.jobs.knows c.requires.mark)
