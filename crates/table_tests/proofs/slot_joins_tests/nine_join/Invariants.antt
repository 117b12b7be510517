use Rattle.log_table.specs.HiredWorkers.{HasHired}
use Rattle.table_tests.proofs.slot_joins_tests.nine_join.Given as goal

abbrev pub invariant-loop-i : goal.invariant-loop-i
invariant-loop-i g l = HasHired l.table l.i l.flusher_seat
