use Rattle.std.proofs.Common.{◌≡◌, ◌+◌, length, sym}
use Rattle.table_tests.proofs.Paying.{units-next, MayPlace-next, HasBooks-inserted}
use Rattle.table_tests.proofs.half_taken_tests.inserts.Goals as goal

pub insert_alone-requires-clause-next : goal.insert_alone-requires-clause-next
insert_alone-requires-clause-next c = MayPlace-next c.args.table.now c.args.rec.now c.args.seat.now c.requires.next c.spell-units.result
    c.spell-units.ensures.units c.requires.whole c.requires.number c.requires.holds

pub insert_alone-requires-clause-units : goal.insert_alone-requires-clause-units
insert_alone-requires-clause-units c = units-next c.args.table.now c.args.rec.now c.args.seat.now c.requires.next c.spell-units.result
    c.spell-units.ensures.units

pub returns-in-Ok : goal.returns-in-Ok
returns-in-Ok c =
    let ends : c.in-Ok.at + length c.spell-units.result ≡ c.units.result + length c.as_slice.result.now =
    (λ i. sym c.units.ensures i + length (sym c.as_slice.ensures.units i)) in
    HasBooks-inserted c.args.table.now c.args.rec.now c.args.seat.now c.requires.next c.insert_alone.new.seat (length c.spell-units.result)
    c.in-Ok.at _ c.requires.books c.in-Ok.ensures.inserted ends
