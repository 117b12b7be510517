use Rattle.std.proofs.Common.{arith}
use Rattle.std.proofs.lemmas.Grind.{common_steps}
use Rattle.lock_core.proofs.job.Job.single.Goals as goal

pub returns-in-len1-None-clause-some : goal.returns-in-len1-None-clause-some
returns-in-len1-None-clause-some c = grind (arith, common_steps) steps 300000
