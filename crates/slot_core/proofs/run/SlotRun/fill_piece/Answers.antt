use Rattle.std.proofs.Common.{◌≡◌, Some, None, sym, ap, ◌∙◌}
use Rattle.slot_core.specs.State.{Joined, SlotState, group_at, with_task}
use Rattle.slot_core.specs.Machine.{granted_base, told_outcome, at_stage, after_fill}
use Rattle.slot_core.specs.Run.{state_of}
use Rattle.slot_core.proofs.Writing.{unfilled_piece-base_granted, written_piece-after_fill, written_piece-sound}
use Rattle.slot_core.proofs.run.SlotRun.fill_piece.Goals as goal

pub invariant_of-self : goal.invariant_of-self
invariant_of-self c =
    let base : granted_base (told_outcome (group_at c.args.member.slot c.args.self.now.groups).phase) ≡ Some c.in-Some.base = ap (λ p. granted_base
    (told_outcome p)) (sym c.phase.ensures) ∙ sym c.granted_base.ensures ∙ c.in-Some.is in
    written_piece-sound c.args.self.now (state_of c.self.inside)
    c.self.view_is c.self.invariant c.args.by c.args.member c.requires.joined c.requires.unfilled c.in-Some.base c.fill.result c.fill.new.self
    c.turn.new.hands.items base
    c.fill.ensures.left c.fill.ensures.filled (c.turn.ensures ∙ ap (λ t. with_task c.args.by t c.self.inside.hands.items) (c.at_stage.ensures ∙ ap (λ st. at_stage st c.args.member) c.filled.ensures))

pub returns-in-Some : goal.returns-in-Some
returns-in-Some c =
    let base : granted_base (told_outcome (group_at c.args.member.slot c.args.self.now.groups).phase) ≡ Some c.in-Some.base = ap (λ p. granted_base
    (told_outcome p)) (sym c.phase.ensures) ∙ sym c.granted_base.ensures ∙ c.in-Some.is in
    written_piece-after_fill c.args.self.now (state_of c.self.inside)
    c.self.view_is c.self.invariant c.args.by c.args.member c.requires.joined c.requires.unfilled c.in-Some.base c.fill.result c.fill.new.self
    c.turn.new.hands.items base
    c.fill.ensures.left c.fill.ensures.filled (c.turn.ensures ∙ ap (λ t. with_task c.args.by t c.self.inside.hands.items) (c.at_stage.ensures ∙ ap (λ st. at_stage st c.args.member) c.filled.ensures))
    ∙ ap (λ (s : SlotState). after_fill s c.args.by (Joined c.args.member)) c.self.view_is

pub returns-in_default : goal.returns-in_default
returns-in_default c =
    let none : granted_base (told_outcome (group_at c.args.member.slot c.args.self.now.groups).phase) ≡ None = ap (λ p. granted_base (told_outcome p))
    (sym c.phase.ensures) ∙ sym c.granted_base.ensures ∙ c.in_default.is in
    absurd (unfilled_piece-base_granted c.args.self.now (state_of c.self.inside) c.self.view_is c.self.invariant c.args.by c.args.member c.requires.joined c.requires.unfilled none)
