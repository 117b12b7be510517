use Rattle.std.proofs.Common.{subst}
use Rattle.ring_core.specs.declared.event.RingEvent.TheVariants.{Flushed}
use Rattle.ring_core.specs.Laws.{IsSound}
use Rattle.ring_core.specs.Run.{state_of}
use Rattle.ring_core.proofs.RunLemmas.{flush-step}
use Rattle.ring_core.proofs.Runs.{step-sound}
use Rattle.ring_core.proofs.run.RingRun.flush.Goals as goal

pub returns : goal.returns
returns c = flush-step c.args.self.now (state_of c.self.inside) c.self.view_is c.args.to
    c.flush.result c.flush.new.self c.flush.ensures.may c.flush.ensures.flushed c.flush.ensures.none

pub invariant_of-self : goal.invariant_of-self
invariant_of-self c = step-sound c.args.self.now (Flushed c.args.to) c.flush.result _ (subst IsSound c.self.view_is c.self.invariant) (returns c)
