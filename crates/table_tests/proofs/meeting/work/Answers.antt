use Rattle.table_tests.proofs.meeting.work.Goals as goal

pub leave-requires-clause-seat : goal.leave-requires-clause-seat
leave-requires-clause-seat g c = c.insert_note-at.ensures.worker.own

pub leave-requires-clause-may : goal.leave-requires-clause-may
leave-requires-clause-may g c =
    let worker = c.insert_note-at.ensures.worker in
    record { rests = worker.ready.rests; none_held = worker.free.none_held }
