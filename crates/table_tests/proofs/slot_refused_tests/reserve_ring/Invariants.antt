use Rattle.log_table.specs.HiredWorkers.{HasHired}
use Rattle.table_tests.proofs.slot_refused_tests.reserve_ring.Given as goal

abbrev pub invariant-loop-i : goal.invariant-loop-i
invariant-loop-i g l = HasHired l.table l.i l.flusher_seat
