use Rattle.std.proofs.Common.{refl}
use Rattle.run_plan.proofs.demo.plan_of_demo.Goals as goal

pub returns-clause-voice : goal.returns-clause-voice
returns-clause-voice c = refl
