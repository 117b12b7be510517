use Rattle.std.proofs.Common.{None, ap, ◌∙◌}
use Rattle.slot_core.specs.State.{Works, InRing, with_task}
use Rattle.slot_core.specs.Run.{state_of}
use Rattle.slot_core.proofs.Writing.{written_reserve-sound}
use Rattle.slot_core.proofs.run.SlotRun.reserve.Goals as goal

pub invariant_of-self-2 : goal.invariant_of-self-2
invariant_of-self-2 c = written_reserve-sound c.args.self.now (state_of c.self.inside)
    c.self.view_is c.self.invariant c.args.by c.args.n c.tail-base.result c.reserve-2.new.self c.take_up.new.hands.items
    (c.may_reserve.ensures.0 c.if-not-may_reserve.false) c.tail-base.ensures c.in_ok-reserve.ensures.ok (c.take_up.ensures ∙ ap (with_task c.args.by
    (InRing None (Works c.tail-base.result))) c.reserve.ensures.items)
