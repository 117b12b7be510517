use Rattle.std.proofs.Common.{◌<◌, length, rules}
use Rattle.slot_core.specs.Run.{state_of}
use Rattle.slot_core.proofs.Writing.{reopened_slot-within, reopened_slot-no_members, written_reopen-sound}
use Rattle.slot_core.proofs.run.SlotRun.reopen.Goals as goal

pub index_mut-group-requires : goal.index_mut-group-requires
index_mut-group-requires c =
    let there : c.in-Some.slot < length c.self.inside.groups.items =
    reopened_slot-within c.args.self.now (state_of c.self.inside) c.self.view_is c.self.invariant c.args.by c.in-Some.slot _ _ _
    c.task-task.ensures.task c.ring_stage.ensures (c.is_idle.ensures.0 c.if-not-is_idle.false) c.reopening.ensures c.in-Some.is in
    search rules

pub open-requires : goal.open-requires
open-requires c =
    reopened_slot-no_members c.args.self.now (state_of c.self.inside) c.self.view_is c.self.invariant c.args.by c.in-Some.slot _ _ _
    c.task-task.ensures.task c.ring_stage.ensures (c.is_idle.ensures.0 c.if-not-is_idle.false) c.reopening.ensures c.in-Some.is
    c.index_mut-group.result.now c.index_mut-group.ensures.value

pub invariant_of-self : goal.invariant_of-self
invariant_of-self c =
    written_reopen-sound c.args.self.now (state_of c.self.inside) c.self.view_is c.self.invariant c.args.by c.in-Some.slot _ _ _
    c.task-task.ensures.task c.ring_stage.ensures (c.is_idle.ensures.0 c.if-not-is_idle.false) c.reopening.ensures c.in-Some.is
    c.turn.new.hands.items c.nothing.result c.open.new.self c.turn.ensures c.nothing.ensures c.open.ensures
