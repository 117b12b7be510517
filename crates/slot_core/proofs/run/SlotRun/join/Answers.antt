use Rattle.std.proofs.Common.{◌+◌, ◌≤◌, sym, ap, ◌∙◌, subst}
use Rattle.std.specs.Bool.{OnTrue}
use Rattle.lsn_space.specs.declared.lsn.TheConstants.{LAST}
use Rattle.slot_core.specs.State.{Group, SlotState, group_at}
use Rattle.slot_core.specs.Machine.{gathered, after_join}
use Rattle.slot_core.specs.Run.{state_of}
use Rattle.slot_core.proofs.Writing.{found_group-group_at, written_join-after_join, written_join-sound}
use Rattle.slot_core.proofs.run.SlotRun.join.Goals as goal

pub join-requires : goal.join-requires
join-requires c =
    let may = c.may_join.ensures.may.0 c.if-not-may_join.false in
    let read = found_group-group_at c.args.self.now (state_of c.self.inside) c.self.view_is c.self.invariant c.args.by c.args.slot _ may.there
    c.index_mut-group.ensures.value in
    let fits = subst (λ b. OnTrue b (gathered (group_at c.args.slot c.args.self.now.groups).phase + c.args.n ≤ LAST))
    c.if-not-may_join.false c.may_join.ensures.fits in
    subst (λ (g : Group). gathered g.phase + c.args.n ≤ LAST)
    (sym (read ∙ ap (λ (s : SlotState). group_at c.args.slot s.groups) c.self.view_is)) fits

pub invariant_of-self-2 : goal.invariant_of-self-2
invariant_of-self-2 c =
    written_join-sound c.args.self.now (state_of c.self.inside) c.self.view_is c.self.invariant c.args.by c.args.slot c.args.n _ _ _ _ _ _
    (c.may_join.ensures.may.0 c.if-not-may_join.false) c.index_mut-group.ensures.value c.phase.ensures c.task_joined-task.ensures
    c.reserve.ensures.items c.take_up.ensures c.in_ok-join.ensures.ok

pub returns-clause-step : goal.returns-clause-step
returns-clause-step c =
    let may = c.may_join.ensures.may.0 c.if-not-may_join.false in (
      may,
      written_join-after_join c.args.self.now (state_of c.self.inside) c.self.view_is c.self.invariant c.args.by c.args.slot c.args.n _ _ _ _ _ _
          may c.index_mut-group.ensures.value c.phase.ensures c.task_joined-task.ensures
          c.reserve.ensures.items c.take_up.ensures c.in_ok-join.ensures.ok
          ∙ ap (λ (s : SlotState). after_join s c.args.by c.args.slot c.args.n (group_at c.args.slot s.groups)) c.self.view_is,
    )
