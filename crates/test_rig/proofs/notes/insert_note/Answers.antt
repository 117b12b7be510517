use Rattle.test_rig.proofs.Placing.{MayPlace-noted, units-noted}
use Rattle.test_rig.proofs.notes.insert_note.Goals as goal

pub insert_alone-requires-clause-next : goal.insert_alone-requires-clause-next
insert_alone-requires-clause-next g c =
    MayPlace-noted c.args.table.now c.args.number c.args.job.now c.note_units.result c.args.seat.now c.take_job.new.seat c.take_job.result c.requires.worker
    c.take_job.ensures.view c.note_units.ensures

pub insert_alone-requires-clause-units : goal.insert_alone-requires-clause-units
insert_alone-requires-clause-units g c =
    units-noted c.args.table.now c.args.number c.args.job.now c.note_units.result c.args.seat.now c.take_job.new.seat c.take_job.result c.requires.worker
    c.take_job.ensures.view c.note_units.ensures
