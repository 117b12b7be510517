use Rattle.std.proofs.Common.{◌∙◌, sym, ap, subst, true, refl}
use Rattle.std.specs.Vec.{with_items}
use Rattle.std.proofs.lemmas.List.{with_items_is}
use Rattle.ring_core.specs.declared.event.RingEvent.TheVariants.{Mark}
use Rattle.ring_core.specs.Laws.{IsSound}
use Rattle.ring_core.specs.Run.{state_of}
use Rattle.ring_core.specs.State.{Marked, stage_of, with_stage, base_in}
use Rattle.ring_core.proofs.RunLemmas.{mark-step}
use Rattle.ring_core.proofs.Runs.{step-sound}
use Rattle.ring_core.proofs.run.RingRun.mark.Goals as goal

pub returns : goal.returns
returns c = mark-step c.args.self.now (state_of c.self.inside) c.self.view_is c.args.by c.in-Some.base
    (sym (c.in-Some.ensures ∙ ap base_in (c.stage_in_hand.ensures ∙ ap (stage_of c.args.by) c.deref.ensures.value)))
    (c.if-not-mark.ensures.full.0 refl) c.mark.new.self (with_items c.self.inside.hands c.turn_to.new.hands).items c.if-not-mark.ensures.marked
    (with_items_is c.self.inside.hands c.turn_to.new.hands (c.turn_to.auto.hands ∙ c.deref_mut.ensures.len)
    ∙ c.turn_to.ensures ∙ ap (with_stage c.args.by Marked) c.deref_mut.ensures.value)

pub invariant_of-self-2 : goal.invariant_of-self-2
invariant_of-self-2 c = step-sound c.args.self.now (Mark c.args.by) true _ (subst IsSound c.self.view_is c.self.invariant) (returns c)
