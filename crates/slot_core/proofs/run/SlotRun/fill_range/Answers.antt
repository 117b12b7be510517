use Rattle.std.proofs.Common.{◌≡◌, Some, sym, ap, ◌∙◌}
use Rattle.ring_core.specs.State.{base_in}
use Rattle.slot_core.specs.State.{task_of, ring_stage}
use Rattle.slot_core.specs.Run.{state_of}
use Rattle.slot_core.proofs.Writing.{written_fill-sound}
use Rattle.slot_core.proofs.run.SlotRun.fill_range.Goals as goal

pub invariant_of-self : goal.invariant_of-self
invariant_of-self c =
    let base : base_in (ring_stage (task_of c.args.by c.args.self.now.hands)) ≡ Some c.in-Some.base = ap (λ t. base_in (ring_stage t))
    (sym c.task.ensures.task) ∙ ap base_in (sym c.ring_stage.ensures) ∙ sym c.base_in.ensures ∙ c.in-Some.is in
    written_fill-sound c.args.self.now (state_of c.self.inside)
    c.self.view_is c.self.invariant c.args.by c.in-Some.base c.fill.result c.fill.new.self base c.fill.ensures.left c.fill.ensures.filled c.fill.ensures.none
