use Rattle.std.proofs.Common.{◌+◌, take}
use Rattle.log_table.specs.Seats.{Becomes, view_of}
use Rattle.ring_buffer.specs.Calls.{with_units}
use Rattle.consol_array.proofs.filling.fill_member.Given as goal

abbrev pub invariant-loop-i : goal.invariant-loop-i
invariant-loop-i l = Becomes l.initial.seat l.seat (with_units (take l.i l.list) ((view_of l.initial.seat).seen.steps + l.i) (view_of l.initial.seat))
