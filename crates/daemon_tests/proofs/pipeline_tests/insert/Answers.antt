use Rattle.daemon_tests.proofs.pipeline_tests.insert.Goals as goal

pub leave-requires-clause-seat : goal.leave-requires-clause-seat
leave-requires-clause-seat c = c.insert_all-inserted.ensures.worker.own

pub leave-requires-clause-may : goal.leave-requires-clause-may
leave-requires-clause-may c =
    let worker = c.insert_all-inserted.ensures.worker in
    record { rests = worker.ready.rests; none_held = worker.free.none_held }
