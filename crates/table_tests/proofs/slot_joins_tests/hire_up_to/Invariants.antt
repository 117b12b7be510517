use Rattle.log_table.specs.HiredWorkers.{HasHired}
use Rattle.table_tests.proofs.slot_joins_tests.hire_up_to.Given as goal

abbrev pub invariant-loop-worker : goal.invariant-loop-worker
invariant-loop-worker l = HasHired l.table l.worker l.flusher_seat
