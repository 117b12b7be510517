use Rattle.std.proofs.Common.{◌≡◌, Some, sym, ap, ◌∙◌, subst}
use Rattle.std.specs.Bool.{OnTrue}
use Rattle.ring_core.specs.RingLog.{marked}
use Rattle.ring_core.specs.State.{base_in}
use Rattle.slot_core.specs.State.{Marked, task_of, with_task, ring_stage}
use Rattle.slot_core.specs.Machine.{in_ring}
use Rattle.slot_core.specs.Run.{state_of}
use Rattle.slot_core.proofs.Writing.{written_mark-sound}
use Rattle.slot_core.proofs.run.SlotRun.mark.Goals as goal

pub invariant_of-self-2 : goal.invariant_of-self-2
invariant_of-self-2 c =
    let base : base_in (ring_stage (task_of c.args.by c.args.self.now.hands)) ≡ Some c.in-Some.base = ap (λ t. base_in (ring_stage t))
    (sym c.task-task.ensures.task) ∙ ap base_in (sym c.ring_stage.ensures) ∙ sym c.base_in.ensures ∙ c.in-Some.is in
    written_mark-sound c.args.self.now (state_of c.self.inside) c.self.view_is c.self.invariant c.args.by c.in-Some.base c.mark.new.self c.turn.new.hands.items base
    (c.mark.ensures.full.0 c.if-not-mark.false) (subst (λ b. OnTrue b (c.mark.new.self ≡ marked c.self.inside.log c.in-Some.base)) c.if-not-mark.false c.mark.ensures.marked)
    (c.turn.ensures ∙ ap (λ t. with_task c.args.by t c.self.inside.hands.items) (c.in_ring.ensures ∙ ap (in_ring Marked) c.task-task.ensures.task))
