use Rattle.std.proofs.Common.{rules, false}
use Rattle.slot_rig.proofs.Hears.{saw_published-hears, hears-may_load_base}
use Rattle.slot_rig.proofs.hearing.hear.Goals as goal

pub load_base-requires-clause-next : goal.load_base-requires-clause-next
load_base-requires-clause-next c =
    hears-may_load_base c.args.table.now c.args.share.now c.load_slot.new.seat c.load_slot.new.seat c.load_slot.result.total false
    (saw_published-hears c.args.table.now c.args.share.now c.args.seat.now c.load_slot.new.seat c.load_slot.result (search rules) c.requires.waits
    c.load_slot.ensures.view)
