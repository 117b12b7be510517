use Rattle.std.proofs.Common.{◌≡◌, ◌-◌}
use Rattle.lsn_space.specs.declared.lsn.TheConstants.{LAST}
use Rattle.log_table.specs.Seats.{view_of}
use Rattle.ring_buffer.specs.Calls.{HasOnlySeen}
use Rattle.consol_array.proofs.leading.place_group.Given as goal

abbrev pub invariant-places : goal.invariant-places
invariant-places l = HasOnlySeen l.fn.seat l.seat × ((view_of l.seat).call ≡ (view_of l.fn.seat).call)

abbrev pub decreases-places : goal.decreases-places
decreases-places l = LAST - (view_of l.seat).seen.tail
