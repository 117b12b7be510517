use Rattle.std.proofs.Common.{◌∙◌, sym, ap, subst, true}
use Rattle.std.specs.Vec.{with_items}
use Rattle.std.proofs.lemmas.List.{with_items_is}
use Rattle.ring_core.specs.declared.event.RingEvent.TheVariants.{Raise}
use Rattle.ring_core.specs.Laws.{IsSound}
use Rattle.ring_core.specs.Run.{state_of}
use Rattle.ring_core.specs.State.{Holds, stage_of, with_stage, raises_from}
use Rattle.ring_core.proofs.RunLemmas.{raise-step, raise-marked}
use Rattle.ring_core.proofs.Runs.{step-sound}
use Rattle.ring_core.proofs.run.RingRun.raise.Goals as goal

pub raise-requires : goal.raise-requires
raise-requires c = raise-marked (state_of c.self.inside) c.args.by c.in-Some.from c.self.invariant
    (sym (c.in-Some.ensures ∙ ap raises_from (c.stage_in_hand.ensures ∙ ap (stage_of c.args.by) c.deref.ensures.value)))

pub returns : goal.returns
returns c = raise-step c.args.self.now (state_of c.self.inside) c.self.view_is c.args.by c.in-Some.from c.exposed-found.result
    (sym (c.in-Some.ensures ∙ ap raises_from (c.stage_in_hand.ensures ∙ ap (stage_of c.args.by) c.deref.ensures.value)))
    c.raise.new.self c.raise.ensures c.exposed-found.ensures (with_items c.self.inside.hands c.turn_to.new.hands).items
    (with_items_is c.self.inside.hands c.turn_to.new.hands (c.turn_to.auto.hands ∙ c.deref_mut.ensures.len)
    ∙ c.turn_to.ensures ∙ ap (with_stage c.args.by (Holds c.exposed-found.result)) c.deref_mut.ensures.value)

pub invariant_of-self : goal.invariant_of-self
invariant_of-self c = step-sound c.args.self.now (Raise c.args.by) true _ (subst IsSound c.self.view_is c.self.invariant) (returns c)
