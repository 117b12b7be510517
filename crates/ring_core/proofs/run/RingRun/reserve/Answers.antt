use Rattle.std.proofs.Common.{true, refl, ◌∙◌, subst}
use Rattle.ring_core.specs.declared.event.RingEvent.TheVariants.{Reserve}
use Rattle.ring_core.specs.Laws.{IsSound}
use Rattle.ring_core.specs.State.{Works, with_stage}
use Rattle.ring_core.specs.Run.{state_of}
use Rattle.ring_core.proofs.RunLemmas.{reserve-step}
use Rattle.ring_core.proofs.Runs.{step-sound}
use Rattle.ring_core.proofs.run.RingRun.reserve.Goals as goal

pub returns-clause-step : goal.returns-clause-step
returns-clause-step c = reserve-step c.args.self.now (state_of c.self.inside) c.self.view_is c.args.by c.args.n (c.if-not-may_reserve.ensures.0 refl)
    c.reserve-2.new.self c.take_up.new.hands.items c.in_ok-reserve.ensures.ok
    (c.take_up.ensures ∙ (λ i. with_stage c.args.by (Works (c.tail-base.ensures i)) (c.reserve.ensures.items i)))

pub invariant_of-self-2 : goal.invariant_of-self-2
invariant_of-self-2 c = step-sound c.args.self.now (Reserve c.args.by c.args.n) true _ (subst IsSound c.self.view_is c.self.invariant)
    (reserve-step c.args.self.now (state_of c.self.inside) c.self.view_is c.args.by c.args.n (c.if-not-may_reserve.ensures.0 refl)
    c.reserve-2.new.self c.take_up.new.hands.items c.in_ok-reserve.ensures.ok
    (c.take_up.ensures ∙ (λ i. with_stage c.args.by (Works (c.tail-base.ensures i)) (c.reserve.ensures.items i))))
