use Rattle.std.proofs.Common.{Option, IfSome, ◌+◌, sym, subst}
use Rattle.log_table.specs.Seats.{view_of}
use Rattle.ring_buffer.specs.Calls.{HasFilled, HasReserved}
use Rattle.ring_buffer.specs.declared.call.Range.{Range}
use Rattle.ring_buffer.proofs.Inserted.{HasFilled-reserved}
use Rattle.table_tests.proofs.groups_tests.inserts_alone.Goals as goal

pub finish-requires-clause-filled : goal.finish-requires-clause-filled
finish-requires-clause-filled g c =
    let units = c.note_units-units.result in
    let reserved : HasReserved c.in-Ok-Some.range units (view_of c.place_note.new.seat) =
    subst (λ (o : Option Range). IfSome o (λ range. HasReserved range units (view_of c.place_note.new.seat))) c.in-Ok-Some.field-0-is
    c.in-Ok-Some.ensures.reserved in
    subst (λ (range : Range). HasFilled range (view_of c.fill-filled.new.seat)) (sym c.fill-filled.ensures.range)
    (HasFilled-reserved c.in-Ok-Some.range units ((view_of c.place_note.new.seat).seen.steps + c.in-Ok-Some.range.size)
    c.place_note.new.seat c.fill-filled.new.seat reserved c.fill-filled.ensures.becomes)
