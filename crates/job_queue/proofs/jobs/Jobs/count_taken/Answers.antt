use Rattle.std.proofs.Common.{length, sym, subst}
use Rattle.job_queue.specs.declared.takings.Takings.{Takings}
use Rattle.job_queue.specs.Passes.{AreAllTaken}
use Rattle.job_queue.proofs.Learning.{Learns-has_all_below}
use Rattle.job_queue.proofs.PassLemmas.{IsFirst-all_taken}
use Rattle.job_queue.proofs.jobs.Jobs.count_taken.Goals as goal

pub learn_as-requires-clause-rule : goal.learn_as-requires-clause-rule
learn_as-requires-clause-rule c = Learns-has_all_below _ _ c.requires.jobs.first

pub returns-clause-taken : goal.returns-clause-taken
returns-clause-taken c = subst (λ (v : Takings). AreAllTaken (length c.args.self.now.queue.script) v.places_back v.marks_back)
    (sym c.learn_as.ensures.queue.1) (IsFirst-all_taken _ _ c.requires.jobs.knows (c.learn_as.ensures.rule.1 c.requires.out))
