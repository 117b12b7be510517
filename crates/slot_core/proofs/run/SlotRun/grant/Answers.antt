use Rattle.std.proofs.Common.{◌≡◌, ◌<◌, length, sym, ap, ◌∙◌, subst}
use Rattle.slot_core.specs.State.{Granted, Placed, Group, SlotState, membership, group, group_at, with_task}
use Rattle.slot_core.specs.Laws.{IsSound}
use Rattle.slot_core.specs.Run.{state_of}
use Rattle.slot_core.proofs.RowLemmas.{group-read}
use Rattle.slot_core.proofs.RunLemmas.{member_slot-within}
use Rattle.slot_core.proofs.Writing.{written_grant-sound}
use Rattle.slot_core.proofs.run.SlotRun.grant.Goals as goal

pub invariant_of-self-2 : goal.invariant_of-self-2
invariant_of-self-2 c =
    let read : c.index_mut-group.result.now ≡ group_at c.args.member.slot c.self.inside.groups.items = c.index_mut-group.ensures.value
    ∙ group-read c.self.inside.groups.items c.args.member.slot c.index_mut-group.result.now
    (subst (λ (s : SlotState). c.args.member.slot < length s.groups) (sym c.self.view_is) (member_slot-within c.args.self.now c.args.by c.args.member
    (subst IsSound c.self.view_is c.self.invariant) (ap membership c.requires.joined))) in
    written_grant-sound c.args.self.now (state_of c.self.inside) c.self.view_is c.self.invariant c.args.by c.args.member c.args.total c.tail-base.result
    c.reserve.new.self c.turn.new.hands.items c.set_phase.new.self c.requires.joined c.requires.places c.requires.total c.requires.room c.tail-base.ensures c.in_ok-reserve.ensures.ok
    (c.turn.ensures ∙ ap (λ t. with_task c.args.by t c.self.inside.hands.items) c.at_stage.ensures)
    (c.set_phase.ensures ∙ ap (λ (g : Group). group g.members (Placed c.args.by c.args.total (Granted c.tail-base.result))) read)
