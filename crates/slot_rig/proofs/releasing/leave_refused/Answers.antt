use Rattle.std.proofs.Common.{◌∙◌, inr, length, ap, sym, subst}
use Rattle.log_rule.specs.May.{MayReleaseRefused}
use Rattle.log_table.specs.Seats.{view_of}
use Rattle.slot_rig.proofs.Releases.{leaves-may_release_refused, left_last-call_reopening}
use Rattle.slot_rig.proofs.releasing.leave_refused.Goals as goal

pub release_slot-before-requires-clause-next : goal.release_slot-before-requires-clause-next
release_slot-before-requires-clause-next c = inr
    (subst (λ n. MayReleaseRefused c.args.share.now.slot n (view_of c.args.seat.now)) (sym (ap length c.as_slice.ensures.units))
    (leaves-may_release_refused c.args.table.now c.args.share.now c.args.refusal.now.tail c.args.refusal.now.durable c.args.seat.now c.requires.heard))

pub reopen-requires-clause-next : goal.reopen-requires-clause-next
reopen-requires-clause-next c =
    (left_last-call_reopening c.args.table.now c.args.share.now c.args.refusal.now.tail c.args.refusal.now.durable c.args.seat.now c.requires.heard
    c.release_slot-before.new.seat c.release_slot-before.result c.release_slot-before.ensures.view
    (sym c.remaining-remaining.ensures.remaining ∙ (c.if-remaining-n.true ∙ ap length c.as_slice.ensures.units))).call_is
