-- What the rows of the program stand for, and when it takes memory.
use Rattle.std.specs.Prelude.{ℕ, ◌==◌, ◌+◌, Bool}
use Rattle.ring_core.specs.State.{Hand, Reservation, RingState}
use Rattle.ring_core.specs.Machine.{MayReserve}
use Rattle.ring_core.specs.declared.event.RingEvent.{RingEvent}
use Rattle.ring_core.specs.declared.event.RingEvent.TheVariants.{Reserve, Fill, Mark, LookExposed, LookMark, Raise, Flushed}

-- the row is this actor's
abbrev pub is_of : ℕ → Hand → Bool
is_of actor hand = hand.actor == actor

-- the reservation ends at this place
abbrev pub is_end : ℕ → Reservation → Bool
is_end place r = r.base + r.size == place

-- only a reservation that is enabled may need memory
abbrev pub MayNeedMemory : RingState → RingEvent → Type 0
MayNeedMemory s (Reserve actor n) = MayReserve s actor n
MayNeedMemory s (Fill actor) = ⊥
MayNeedMemory s (Mark actor) = ⊥
MayNeedMemory s (LookExposed actor) = ⊥
MayNeedMemory s (LookMark actor) = ⊥
MayNeedMemory s (Raise actor) = ⊥
MayNeedMemory s (Flushed to) = ⊥
