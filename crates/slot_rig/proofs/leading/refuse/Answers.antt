use Rattle.std.proofs.Common.{arith, inr}
use Rattle.slot_rig.proofs.Leads.{no_room-may_store_refused}
use Rattle.slot_rig.proofs.leading.refuse.Goals as goal

pub store_base-requires-clause-next : goal.store_base-requires-clause-next
store_base-requires-clause-next c = inr
    (no_room-may_store_refused c.args.table.now c.args.share.now c.args.total c.load_tail-tail.result c.load_durable-durable.result c.args.seat.now c.load_tail-tail.new.seat
    c.load_durable-durable.new.seat c.requires.closed c.load_tail-tail.ensures.view c.load_durable-durable.ensures.view _ (omega arith) (omega arith))
