use Rattle.std.proofs.Common.{◌≡◌, Some, sym, ap, ◌∙◌}
use Rattle.std.specs.Option.{is_some}
use Rattle.ring_core.specs.State.{raises_from}
use Rattle.slot_core.specs.State.{Holds, SlotState, task_of, with_task, ring_stage}
use Rattle.slot_core.specs.Machine.{in_ring, after_raise}
use Rattle.slot_core.specs.Run.{state_of}
use Rattle.slot_core.proofs.Writing.{written_raise-after_raise, written_raise-sound}
use Rattle.slot_core.proofs.run.SlotRun.raise.Goals as goal

pub invariant_of-self : goal.invariant_of-self
invariant_of-self c =
    let from : raises_from (ring_stage (task_of c.args.by c.args.self.now.hands)) ≡ Some c.in-Some.from = ap (λ t. raises_from (ring_stage t))
    (sym c.task-task.ensures.task) ∙ ap raises_from (sym c.ring_stage.ensures) ∙ sym c.raises_from.ensures ∙ c.in-Some.is in
    written_raise-sound c.args.self.now (state_of c.self.inside)
    c.self.view_is c.self.invariant c.args.by c.in-Some.from c.exposed-at.result c.raise.new.self c.turn.new.hands.items from c.raise.ensures c.exposed-at.ensures
    (c.turn.ensures ∙ ap (λ t. with_task c.args.by t c.self.inside.hands.items) (c.in_ring.ensures ∙ ap (in_ring (Holds c.exposed-at.result)) c.task-task.ensures.task))

pub returns : goal.returns
returns c =
    let from : raises_from (ring_stage (task_of c.args.by c.args.self.now.hands)) ≡ Some c.in-Some.from = ap (λ t. raises_from (ring_stage t))
    (sym c.task-task.ensures.task) ∙ ap raises_from (sym c.ring_stage.ensures) ∙ sym c.raises_from.ensures ∙ c.in-Some.is in (
      ap is_some from,
      written_raise-after_raise c.args.self.now (state_of c.self.inside)
          c.self.view_is c.self.invariant c.args.by c.in-Some.from c.exposed-at.result c.raise.new.self c.turn.new.hands.items from c.raise.ensures c.exposed-at.ensures
          (c.turn.ensures ∙ ap (λ t. with_task c.args.by t c.self.inside.hands.items) (c.in_ring.ensures ∙ ap (in_ring (Holds c.exposed-at.result)) c.task-task.ensures.task))
          ∙ ap (λ (s : SlotState). after_raise s c.args.by (task_of c.args.by s.hands) (raises_from (ring_stage (task_of c.args.by s.hands)))) c.self.view_is,
    )
