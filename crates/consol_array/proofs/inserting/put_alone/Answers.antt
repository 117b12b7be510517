use Rattle.std.proofs.Common.{◌+◌, sym, subst}
use Rattle.log_table.specs.Seats.{view_of}
use Rattle.ring_buffer.specs.Calls.{HasFilled}
use Rattle.ring_buffer.specs.declared.call.Range.{Range}
use Rattle.ring_buffer.proofs.Inserted.{HasFilled-reserved}
use Rattle.consol_array.proofs.inserting.put_alone.Goals as goal

pub finish-requires-clause-filled : goal.finish-requires-clause-filled
finish-requires-clause-filled g c =
    subst (λ (range : Range). HasFilled range (view_of c.fill-filled.new.seat)) (sym c.fill-filled.ensures.range)
    (HasFilled-reserved c.args.range c.args.units.now ((view_of c.args.seat.now).seen.steps + c.args.range.size) c.args.seat.now c.fill-filled.new.seat
    c.requires.range c.fill-filled.ensures.becomes)
