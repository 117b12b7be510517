use Rattle.std.proofs.Common.{inr}
use Rattle.slot_rig.proofs.Releases.{emptying-may_mark_group}
use Rattle.slot_rig.proofs.releasing.mark_range.Goals as goal

pub store_mark-requires-clause-next : goal.store_mark-requires-clause-next
store_mark-requires-clause-next c = inr
    (emptying-may_mark_group c.args.table.now c.args.share.now c.args.base c.args.seat.now c.args.seat.now c.args.total _ c.in_ok-end.ensures.sum c.requires.emptying)
