use Rattle.std.proofs.Common.{arith, ◌<◌}
use Rattle.slot_rig.proofs.Releases.{saw_exposed-call_holding, holding-may_look_mark, saw_mark_above-call_raising, raising-may_raise, after_raise-call_holding}
use Rattle.slot_rig.proofs.releasing.expose_range.Goals as goal

pub load_mark-to-requires-clause-next : goal.load_mark-to-requires-clause-next
load_mark-to-requires-clause-next c =
    holding-may_look_mark c.args.table.now c.args.share.now c.args.base c.load_exposed-from.new.seat c.load_exposed-from.new.seat c.load_exposed-from.result
    (saw_exposed-call_holding c.args.table.now c.args.share.now c.args.base c.args.seat.now c.load_exposed-from.new.seat c.load_exposed-from.result c.requires.marked
    c.load_exposed-from.ensures.view)

pub exchange_exposed-requires-clause-next : goal.exchange_exposed-requires-clause-next
exchange_exposed-requires-clause-next c =
    let above : c.load_exposed-from.result < c.load_mark-to.result = grind arith steps 400000 in
    raising-may_raise c.args.table.now c.args.share.now c.args.base c.load_mark-to.new.seat c.load_mark-to.new.seat c.load_exposed-from.result c.load_mark-to.result
    (saw_mark_above-call_raising c.args.table.now c.args.share.now c.args.base c.load_exposed-from.new.seat c.load_mark-to.new.seat c.load_exposed-from.result
    c.load_mark-to.result
    (saw_exposed-call_holding c.args.table.now c.args.share.now c.args.base c.args.seat.now c.load_exposed-from.new.seat c.load_exposed-from.result c.requires.marked
    c.load_exposed-from.ensures.view) c.load_mark-to.ensures.view above)

pub load_mark-next-requires-clause-next : goal.load_mark-next-requires-clause-next
load_mark-next-requires-clause-next c =
    let above : c.load_exposed-from.result < c.load_mark-to.result = grind arith steps 400000 in
    holding-may_look_mark c.args.table.now c.args.share.now c.args.base c.exchange_exposed.new.seat c.exchange_exposed.new.seat c.load_mark-to.result
    (after_raise-call_holding c.args.table.now c.args.share.now c.args.base c.load_mark-to.new.seat c.exchange_exposed.new.seat c.load_exposed-from.result
    c.load_mark-to.result
    (saw_mark_above-call_raising c.args.table.now c.args.share.now c.args.base c.load_exposed-from.new.seat c.load_mark-to.new.seat c.load_exposed-from.result
    c.load_mark-to.result
    (saw_exposed-call_holding c.args.table.now c.args.share.now c.args.base c.args.seat.now c.load_exposed-from.new.seat c.load_exposed-from.result c.requires.marked
    c.load_exposed-from.ensures.view) c.load_mark-to.ensures.view above) c.in-Ok.ensures.ok)
