use Rattle.test_rig.proofs.Placing.{MayPlace-noted, units-noted}
use Rattle.table_tests.proofs.group_inserts_tests.inserts.Goals as goal

pub insert-requires-clause-next : goal.insert-requires-clause-next
insert-requires-clause-next g c =
    MayPlace-noted c.args.table.now c.args.number c.args.job.now c.note_units.result c.args.seat c.take_job.new.seat c.take_job.result c.requires.worker
    c.take_job.ensures.view c.note_units.ensures

pub insert-requires-clause-units : goal.insert-requires-clause-units
insert-requires-clause-units g c =
    units-noted c.args.table.now c.args.number c.args.job.now c.note_units.result c.args.seat c.take_job.new.seat c.take_job.result c.requires.worker
    c.take_job.ensures.view c.note_units.ensures
