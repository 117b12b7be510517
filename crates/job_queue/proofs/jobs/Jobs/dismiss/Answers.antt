use Rattle.std.proofs.Common.{◌∙◌}
use Rattle.job_queue.proofs.Learning.{Learns-balanced}
use Rattle.job_queue.proofs.Lending.{IsShared-merges}
use Rattle.job_queue.proofs.PassLemmas.{HasPassOf-workers_pass, IsWorkers-one_mark}
use Rattle.job_queue.proofs.jobs.Jobs.dismiss.Goals as goal

pub absorb-requires-clause-rule : goal.absorb-requires-clause-rule
absorb-requires-clause-rule c =
    let own = HasPassOf-workers_pass c.args.self.now.queue c.args.rows c.take.result c.in-Some.pass c.requires.pass c.take.ensures.value c.in-Some.is in
    IsShared-merges _ _ _ _ c.requires.jobs.first own.knows.live (IsWorkers-one_mark _ _ _ c.requires.jobs.knows own.knows)

pub learn_as-requires-clause-rule : goal.learn_as-requires-clause-rule
learn_as-requires-clause-rule c = Learns-balanced c.absorb.new.pass.id _ (c.absorb.ensures.queue.1 ∙ c.requires.jobs.first)
