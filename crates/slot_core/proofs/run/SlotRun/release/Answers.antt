use Rattle.std.proofs.Common.{IsSomeAnd, sym, ap, ◌∙◌, subst}
use Rattle.slot_core.specs.State.{Membership}
use Rattle.slot_core.specs.Laws.{IsSound}
use Rattle.slot_core.specs.Machine.{HasDone, after_release}
use Rattle.slot_parts.specs.Phases.{HasRemaining}
use Rattle.slot_core.proofs.RunLemmas.{member_slot-within, member-has_remaining, after_release-sound, moved-after_release}
use Rattle.slot_core.proofs.run.SlotRun.release.Goals as goal

pub released-requires : goal.released-requires
released-requires c = subst (HasRemaining c.in-Some.member.size) (sym c.phase-phase.ensures)
    (member-has_remaining c.args.self.now c.args.by c.in-Some.member c.membership.ensures.sound (sym c.membership.ensures.member ∙ c.in-Some.is))

pub leave-requires-clause-there : goal.leave-requires-clause-there
leave-requires-clause-there c =
    member_slot-within c.args.self.now c.args.by c.in-Some.member c.membership.ensures.sound (sym c.membership.ensures.member ∙ c.in-Some.is)

pub leave-requires-clause-sound : goal.leave-requires-clause-sound
leave-requires-clause-sound c =
    let is = sym c.membership.ensures.member ∙ c.in-Some.is in
    subst IsSound (sym (moved-after_release c.args.self.now c.args.by c.in-Some.member c.membership.ensures.sound is
    c.phase-phase.result c.task_released-task.result c.released.result
    c.phase-phase.ensures c.task_released-task.ensures c.released.ensures))
    (after_release-sound c.args.self.now c.args.by c.in-Some.member c.membership.ensures.sound is (c.has_done.ensures.0 c.if-not-has_done.false))

pub returns : goal.returns
returns c =
    let is = sym c.membership.ensures.member ∙ c.in-Some.is in (
      subst (λ o. IsSomeAnd o (λ (m : Membership). HasDone m.size m.stage)) (sym is) (c.has_done.ensures.0 c.if-not-has_done.false),
      c.leave.ensures ∙ moved-after_release c.args.self.now c.args.by c.in-Some.member c.membership.ensures.sound is
          c.phase-phase.result c.task_released-task.result c.released.result
          c.phase-phase.ensures c.task_released-task.ensures c.released.ensures
          ∙ ap (after_release c.args.self.now c.args.by) (sym is),
    )
