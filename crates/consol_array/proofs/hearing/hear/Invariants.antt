use Rattle.std.proofs.Common.{◌≡◌}
use Rattle.log_table.specs.Seats.{view_of}
use Rattle.consol_array.proofs.Heards.{HasOnlyLooked}
use Rattle.consol_array.proofs.hearing.hear.Given as goal

abbrev pub invariant-loop : goal.invariant-loop
invariant-loop g l = HasOnlyLooked l.fn.seat l.seat × ((view_of l.seat).call ≡ (view_of l.fn.seat).call)
