use Rattle.std.proofs.Common.{sym, ap, ◌∙◌, subst}
use Rattle.std.specs.Option.{is_some}
use Rattle.ring_core.specs.State.{looks_at}
use Rattle.slot_core.specs.State.{task_of, ring_stage}
use Rattle.slot_core.specs.Laws.{IsSound}
use Rattle.slot_core.specs.Machine.{turned, after_look_mark}
use Rattle.slot_core.proofs.RunLemmas.{after_look_mark-sound, written_look-after_look}
use Rattle.slot_core.proofs.run.SlotRun.look_mark.Goals as goal

pub turn-requires-clause-sound : goal.turn-requires-clause-sound
turn-requires-clause-sound c =
    let looks = ap looks_at (ap ring_stage (sym c.task-task.ensures.task) ∙ sym c.ring_stage.ensures) ∙ sym c.looks_at.ensures ∙ c.in-Some.is in
    subst (λ t. IsSound (turned c.args.self.now c.args.by t))
    (sym (written_look-after_look c.args.self.now c.args.by _ c.self.view_is c.in-Some.at c.task-task.result c.in_ring.result _ _
    c.task-task.ensures.task c.is_marked.ensures c.stage_after_look-stage.ensures c.in_ring.ensures))
    (after_look_mark-sound c.args.self.now c.args.by c.in-Some.at c.task-task.ensures.sound looks)

pub returns : goal.returns
returns c =
    let looks = ap looks_at (ap ring_stage (sym c.task-task.ensures.task) ∙ sym c.ring_stage.ensures) ∙ sym c.looks_at.ensures ∙ c.in-Some.is in (
      ap is_some looks,
      c.turn.ensures ∙ ap (turned c.args.self.now c.args.by)
          (written_look-after_look c.args.self.now c.args.by _ c.self.view_is c.in-Some.at c.task-task.result c.in_ring.result _ _
          c.task-task.ensures.task c.is_marked.ensures c.stage_after_look-stage.ensures c.in_ring.ensures)
          ∙ ap (after_look_mark c.args.self.now c.args.by (task_of c.args.by c.args.self.now.hands)) (sym looks),
    )
