use Rattle.std.proofs.Common.{◌-◌}
use Rattle.lsn_space.specs.declared.lsn.TheConstants.{LAST}
use Rattle.log_table.specs.Seats.{view_of}
use Rattle.ring_buffer.specs.Calls.{KeepsEntries, SeesNoStop}
use Rattle.ring_buffer.proofs.inserting.place_among.Given as goal

abbrev pub invariant-places : goal.invariant-places
invariant-places g l = KeepsEntries l.fn.seat l.seat × SeesNoStop l.fn.seat l.seat

abbrev pub decreases-places : goal.decreases-places
decreases-places g l = LAST - (view_of l.seat).seen.tail
