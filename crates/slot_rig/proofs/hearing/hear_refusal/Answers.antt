use Rattle.std.proofs.Common.{rules, true}
use Rattle.slot_rig.proofs.Hears.{saw_refused-hears, hears-may_load_base}
use Rattle.slot_rig.proofs.hearing.hear_refusal.Goals as goal

pub load_base-word-requires-clause-next : goal.load_base-word-requires-clause-next
load_base-word-requires-clause-next c =
    hears-may_load_base c.args.table.now c.args.share.now c.load_slot.new.seat c.load_slot.new.seat c.load_slot.result.total true
    (saw_refused-hears c.args.table.now c.args.share.now c.args.seat.now c.load_slot.new.seat c.load_slot.result (search rules) c.requires.waits
    c.load_slot.ensures.view)
