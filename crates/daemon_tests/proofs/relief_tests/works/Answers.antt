use Rattle.daemon_tests.proofs.relief_tests.works.Goals as goal

pub leave-requires-clause-seat : goal.leave-requires-clause-seat
leave-requires-clause-seat g c = c.work_queue-worked.ensures.seat

pub leave-requires-clause-may : goal.leave-requires-clause-may
leave-requires-clause-may g c = record { rests = c.work_queue-worked.ensures.ready.rests; none_held = c.work_queue-worked.ensures.none_held }
