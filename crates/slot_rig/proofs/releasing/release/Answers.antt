use Rattle.std.proofs.Common.{inl, length, ap, sym, subst}
use Rattle.log_table.specs.Seats.{view_of}
use Rattle.log_rule.specs.May.{MayReleaseFilled}
use Rattle.slot_rig.proofs.Releases.{fills_all-may_release_filled, released_last-call_emptying, released_not_last-call_idle}
use Rattle.slot_rig.proofs.releasing.release.Goals as goal

pub release_slot-requires-clause-next : goal.release_slot-requires-clause-next
release_slot-requires-clause-next c = inl
    (subst (λ n. MayReleaseFilled c.args.share.now.slot n (view_of c.args.seat.now)) (sym (ap length c.as_slice.ensures.units))
    (fills_all-may_release_filled c.args.table.now c.args.share.now c.args.base c.args.seat.now c.requires.filled))

pub returns-clause-last : goal.returns-clause-last
returns-clause-last c =
    released_last-call_emptying c.args.table.now c.args.share.now c.args.base c.args.seat.now c.requires.filled c.release_slot.new.seat c.release_slot.result
    c.release_slot.ensures.view

pub returns-clause-others : goal.returns-clause-others
returns-clause-others c =
    released_not_last-call_idle c.args.table.now c.args.share.now c.args.base c.args.seat.now c.requires.filled c.release_slot.new.seat c.release_slot.result
    c.release_slot.ensures.view
