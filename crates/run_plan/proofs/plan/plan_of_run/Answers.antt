use Rattle.std.proofs.Common.{refl}
use Rattle.run_plan.proofs.plan.plan_of_run.Goals as goal

pub returns-clause-workers : goal.returns-clause-workers
returns-clause-workers c = refl

pub returns-clause-voice : goal.returns-clause-voice
returns-clause-voice c = refl
