use Rattle.std.proofs.Common.{◌≡◌, sym, ap, ◌∙◌, subst}
use Rattle.slot_core.specs.State.{Marked, Holds, SlotState, task_of, ring_stage}
use Rattle.slot_core.specs.Laws.{IsSound}
use Rattle.slot_core.specs.Machine.{turned, in_ring}
use Rattle.slot_core.proofs.RunLemmas.{after_look_exposed-sound}
use Rattle.slot_core.proofs.run.SlotRun.look_exposed.Goals as goal

pub turn-requires-clause-sound : goal.turn-requires-clause-sound
turn-requires-clause-sound c =
    let marked : ring_stage (task_of c.args.by c.args.self.now.hands) ≡ Marked = ap ring_stage (sym c.task-task.ensures.task)
    ∙ sym c.ring_stage.ensures ∙ c.is_marked.ensures.0 c.if-not-is_marked.false in
    let exposed = c.exposed-at.ensures ∙ ap (λ (s : SlotState). s.log.exposed) c.self.view_is in
    subst (λ t. IsSound (turned c.args.self.now c.args.by t)) (sym (c.in_ring.ensures ∙ ap (in_ring (Holds c.exposed-at.result))
    c.task-task.ensures.task ∙ ap (λ e. in_ring (Holds e) (task_of c.args.by c.args.self.now.hands)) exposed))
    (after_look_exposed-sound c.args.self.now c.args.by c.task-task.ensures.sound marked)
