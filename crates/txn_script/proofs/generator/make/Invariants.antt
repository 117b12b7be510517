use Rattle.std.proofs.Common.{◌≡◌, ◌-◌, ◌++◌}
use Rattle.txn_script.specs.Generator.{generated_jobs}
use Rattle.txn_script.proofs.generator.make.Given as goal

abbrev pub invariant-jobs : goal.invariant-jobs
invariant-jobs l = l.script ++ generated_jobs (l.fn.n - l.counter) l.x ≡ generated_jobs l.fn.n l.fn.seed
