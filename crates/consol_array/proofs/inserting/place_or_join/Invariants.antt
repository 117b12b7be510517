use Rattle.std.proofs.Common.{◌-◌}
use Rattle.lsn_space.specs.declared.lsn.TheConstants.{LAST}
use Rattle.log_table.specs.Seats.{view_of}
use Rattle.ring_buffer.specs.Calls.{KeepsEntries, SeesNoStop}
use Rattle.consol_array.proofs.inserting.place_or_join.Given as goal

abbrev pub invariant-rounds : goal.invariant-rounds
invariant-rounds g l = KeepsEntries l.fn.seat l.seat × SeesNoStop l.fn.seat l.seat

abbrev pub decreases-rounds : goal.decreases-rounds
decreases-rounds g l = LAST - (view_of l.seat).seen.tail
