use Rattle.job_queue.proofs.Popping.{IsShared-pops_next, Learns-holds_some}
use Rattle.job_queue.proofs.PassLemmas.{IsPassOf-same_pass, IsWorkers-took, IsWorkers-mark_left}
use Rattle.job_queue.proofs.queue.Queue.pop.Goals as goal

pub pop_as-requires-clause-rule : goal.pop_as-requires-clause-rule
pop_as-requires-clause-rule g c =
    (IsShared-pops_next _ _ c.requires.pass.knows.live (IsWorkers-mark_left _ _ c.requires.pass.knows c.requires.mark), Learns-holds_some _ _)

pub returns-clause-pass : goal.returns-clause-pass
returns-clause-pass g c = record {
  pass_of = IsPassOf-same_pass c.args.self.now c.args.pass.now c.pop_as.new.pass c.requires.pass.pass_of c.pop_as.ensures.queue;
  knows = IsWorkers-took _ c.in-Some.next _ _ c.requires.pass.knows c.requires.mark c.in-Some.ensures.rule;
}
