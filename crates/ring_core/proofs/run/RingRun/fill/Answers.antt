use Rattle.std.proofs.Common.{subst, sym, ap, ◌∙◌}
use Rattle.ring_core.specs.declared.event.RingEvent.TheVariants.{Fill}
use Rattle.ring_core.specs.Laws.{IsSound}
use Rattle.ring_core.specs.Run.{state_of}
use Rattle.ring_core.specs.State.{stage_of, base_in}
use Rattle.ring_core.proofs.RunLemmas.{fill-step}
use Rattle.ring_core.proofs.Runs.{step-sound}
use Rattle.ring_core.proofs.run.RingRun.fill.Goals as goal

pub returns : goal.returns
returns c = fill-step c.args.self.now (state_of c.self.inside) c.self.view_is c.args.by c.in-Some.base
    (sym (c.in-Some.ensures ∙ ap base_in (c.stage_in_hand.ensures ∙ ap (stage_of c.args.by) c.deref.ensures.value)))
    c.fill.result c.fill.new.self c.fill.ensures.left c.fill.ensures.filled c.fill.ensures.none

pub invariant_of-self : goal.invariant_of-self
invariant_of-self c = step-sound c.args.self.now (Fill c.args.by) c.fill.result _ (subst IsSound c.self.view_is c.self.invariant) (returns c)
