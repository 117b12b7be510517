use Rattle.std.proofs.Common.{sym, ap, ◌∙◌, subst}
use Rattle.slot_core.specs.State.{SlotState, membership}
use Rattle.slot_core.specs.Laws.{IsSound}
use Rattle.slot_core.proofs.RunLemmas.{member_slot-within, after_place-sound, moved_refused-after_place}
use Rattle.slot_core.proofs.run.SlotRun.refuse.Goals as goal

pub advance-requires-clause-there : goal.advance-requires-clause-there
advance-requires-clause-there c = member_slot-within c.args.self.now c.args.by c.args.member
    (subst IsSound c.self.view_is c.self.invariant) (ap membership c.requires.joined)

pub advance-requires-clause-sound : goal.advance-requires-clause-sound
advance-requires-clause-sound c =
    let sound = subst IsSound c.self.view_is c.self.invariant in let is = ap membership c.requires.joined in
    subst IsSound (sym (moved_refused-after_place c.args.self.now c.args.by c.args.member sound is c.args.total _ _ _
    (c.tail.ensures ∙ ap (λ (s : SlotState). s.log.tail) c.self.view_is)
    (c.durable.ensures ∙ ap (λ (s : SlotState). s.log.durable) c.self.view_is)
    c.at_stage.ensures c.requires.places c.requires.total c.requires.full))
    (after_place-sound c.args.self.now c.args.by c.args.member sound is c.requires.places)

pub returns : goal.returns
returns c = c.advance.ensures ∙ moved_refused-after_place c.args.self.now c.args.by c.args.member
    (subst IsSound c.self.view_is c.self.invariant) (ap membership c.requires.joined) c.args.total _ _ _
    (c.tail.ensures ∙ ap (λ (s : SlotState). s.log.tail) c.self.view_is)
    (c.durable.ensures ∙ ap (λ (s : SlotState). s.log.durable) c.self.view_is)
    c.at_stage.ensures c.requires.places c.requires.total c.requires.full
