use Rattle.std.proofs.Common.{arith, inr}
use Rattle.slot_rig.proofs.Leads.{room-may_place_group, reserved_group-stores}
use Rattle.slot_rig.proofs.leading.place.Goals as goal

pub exchange_tail-requires-clause-next : goal.exchange_tail-requires-clause-next
exchange_tail-requires-clause-next c = inr
    (room-may_place_group c.args.table.now c.args.share.now c.args.total c.load_tail-tail.result c.load_durable-durable.result c.args.seat.now c.load_tail-tail.new.seat
    c.load_durable-durable.new.seat c.requires.closed c.load_tail-tail.ensures.view c.load_durable-durable.ensures.view _ c.in_ok-end.ensures.sum
    (omega arith) (omega arith))

pub returns-in-Ok-clause-placed : goal.returns-in-Ok-clause-placed
returns-in-Ok-clause-placed c =
    reserved_group-stores c.args.table.now c.args.share.now c.args.total c.load_tail-tail.result c.load_durable-durable.result c.args.seat.now c.load_tail-tail.new.seat
    c.load_durable-durable.new.seat c.requires.closed c.load_tail-tail.ensures.view c.load_durable-durable.ensures.view c.exchange_tail.new.seat _
    (c.in-Ok.ensures.group
    (room-may_place_group c.args.table.now c.args.share.now c.args.total c.load_tail-tail.result c.load_durable-durable.result c.args.seat.now c.load_tail-tail.new.seat
    c.load_durable-durable.new.seat c.requires.closed c.load_tail-tail.ensures.view c.load_durable-durable.ensures.view _ c.in_ok-end.ensures.sum
    (omega arith) (omega arith)))
