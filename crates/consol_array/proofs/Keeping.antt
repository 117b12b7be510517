-- What a seat is after steps that change what it saw, and its call.
use Rattle.std.proofs.Common.{arith, ℕ, refl, le_refl}
use Rattle.log_table.specs.declared.table.Seat.{Seat}
use Rattle.log_table.specs.Seats.{Becomes, view_of}
use Rattle.log_rule.specs.SlotViews.{saw_slot}
use Rattle.ring_buffer.specs.Calls.{IsSameWorker}
use Rattle.ring_buffer.proofs.OneStep.{IsSameWorker-becomes}

-- after a load of a slot's state
pub IsSameWorker-looked : (old new : Seat) (slot word : ℕ) → Becomes old new (saw_slot slot word (view_of old)) → IsSameWorker old new
IsSameWorker-looked old new slot word looks = IsSameWorker-becomes old new (saw_slot slot word (view_of old)) looks record {
  constants = refl;
  standing = refl;
  tail = le_refl (view_of old).seen.tail;
  exposed = le_refl (view_of old).seen.exposed;
  durable = le_refl (view_of old).seen.durable;
  steps = omega arith;
}
