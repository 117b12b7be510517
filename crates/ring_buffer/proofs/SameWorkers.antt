-- A seat of the same worker.
use Rattle.std.proofs.Common.{◌∙◌, refl, ap, arith}
use Rattle.log_rule.specs.declared.view.Constants.{Constants}
use Rattle.log_table.specs.declared.table.LogTable.{LogTable}
use Rattle.log_table.specs.declared.table.Seat.{Seat}
use Rattle.log_table.specs.Seats.{IsOf}
use Rattle.ring_buffer.specs.Calls.{IsSameWorker}

pub IsSameWorker-refl : (seat : Seat) → IsSameWorker seat seat
IsSameWorker-refl seat = record {
  table_is = refl;
  number = refl;
  slots = refl;
  worker = refl;
  constants = refl;
  standing = refl;
  grows = omega arith;
  exposed = omega arith;
  durable = omega arith;
  steps = omega arith;
}

-- the same worker's seat is the table's still
pub IsOf-same : (table : LogTable) (first second : Seat) → IsOf table first → IsSameWorker first second → IsOf table second
IsOf-same table first second of same = record {
  table_is = same.table_is ∙ of.table_is;
  no_slots = same.slots ∙ of.no_slots;
  ring = ap (λ (constants : Constants). constants.ring) same.constants ∙ of.ring;
  slots = ap (λ (constants : Constants). constants.slots) same.constants ∙ of.slots;
}
