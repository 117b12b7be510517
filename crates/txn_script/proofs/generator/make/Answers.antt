use Rattle.std.proofs.Common.{arith, rules}
use Rattle.txn_script.proofs.GeneratorLemmas.{generated_jobs-step}
use Rattle.txn_script.proofs.generator.make.Goals as goal

pub jobs-preserved : goal.jobs-preserved
jobs-preserved c = rw (c.in_ok-push_leg.ensures.added, c.leg_of.ensures, c.following-x.ensures)
    (generated_jobs-step c.jobs.script _ c.args.n c.jobs.counter c.jobs.x (omega arith) c.jobs.invariant)

pub jobs-init : goal.jobs-init
jobs-init c = search rules steps 300000
