use Rattle.std.proofs.Common.{◌∙◌, sym, ap, subst, true, refl}
use Rattle.std.specs.Vec.{with_items}
use Rattle.std.proofs.lemmas.List.{with_items_is}
use Rattle.ring_core.specs.declared.event.RingEvent.TheVariants.{LookExposed}
use Rattle.ring_core.specs.Laws.{IsSound}
use Rattle.ring_core.specs.Run.{state_of}
use Rattle.ring_core.specs.State.{Holds, stage_of, with_stage}
use Rattle.ring_core.proofs.RunLemmas.{look_exposed-step}
use Rattle.ring_core.proofs.Runs.{step-sound}
use Rattle.ring_core.proofs.run.RingRun.look_exposed.Goals as goal

pub returns : goal.returns
returns c = look_exposed-step c.args.self.now (state_of c.self.inside) c.self.view_is c.args.by c.exposed-at.result
    (sym (c.stage_in_hand.ensures ∙ ap (stage_of c.args.by) c.deref.ensures.value) ∙ c.if-not-is_marked.ensures.0 refl)
    c.exposed-at.ensures (with_items c.self.inside.hands c.turn_to.new.hands).items
    (with_items_is c.self.inside.hands c.turn_to.new.hands (c.turn_to.auto.hands ∙ c.deref_mut.ensures.len)
    ∙ c.turn_to.ensures ∙ ap (with_stage c.args.by (Holds c.exposed-at.result)) c.deref_mut.ensures.value)

pub invariant_of-self : goal.invariant_of-self
invariant_of-self c = step-sound c.args.self.now (LookExposed c.args.by) true _ (subst IsSound c.self.view_is c.self.invariant) (returns c)
