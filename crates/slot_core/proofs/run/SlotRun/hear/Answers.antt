use Rattle.std.proofs.Common.{◌≡◌, IsSomeAnd, Some, sym, ap, ◌∙◌, subst}
use Rattle.std.specs.Option.{is_some}
use Rattle.slot_core.specs.State.{group_at}
use Rattle.slot_core.specs.Laws.{IsSound}
use Rattle.slot_core.specs.Machine.{MayHear, told_outcome, stage_heard, turned, at_stage, after_hear}
use Rattle.slot_core.proofs.RunLemmas.{after_hear-sound}
use Rattle.slot_core.proofs.run.SlotRun.hear.Goals as goal

pub turn-requires-clause-sound : goal.turn-requires-clause-sound
turn-requires-clause-sound c =
    let is = sym c.membership.ensures.member ∙ c.in-Some.is in
    let told : told_outcome (group_at c.in-Some.member.slot c.args.self.now.groups).phase ≡ Some c.in-Some-told_outcome.outcome = ap told_outcome
    (sym c.phase.ensures) ∙ sym c.told_outcome.ensures ∙ c.in-Some-told_outcome.is in
    subst (λ t. IsSound (turned c.args.self.now c.args.by t)) (sym (c.at_stage.ensures ∙ ap (λ st. at_stage st c.in-Some.member) c.heard.ensures))
    (after_hear-sound c.args.self.now c.args.by c.in-Some.member c.membership.ensures.sound is c.in-Some-told_outcome.outcome c.in-Waits.is told)

pub returns : goal.returns
returns c =
    let is = sym c.membership.ensures.member ∙ c.in-Some.is in
    let told : told_outcome (group_at c.in-Some.member.slot c.args.self.now.groups).phase ≡ Some c.in-Some-told_outcome.outcome = ap told_outcome
    (sym c.phase.ensures) ∙ sym c.told_outcome.ensures ∙ c.in-Some-told_outcome.is in (
      subst (λ o. IsSomeAnd o (MayHear c.args.self.now)) (sym is) record { waits = c.in-Waits.is; told = ap is_some told },
      c.turn.ensures ∙ ap (turned c.args.self.now c.args.by) (c.at_stage.ensures ∙ ap (λ st. at_stage st c.in-Some.member) (c.heard.ensures ∙ ap stage_heard (sym told)))
          ∙ ap (after_hear c.args.self.now c.args.by) (sym is),
    )
