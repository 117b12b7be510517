-- Who works on the reservation at a base: an actor, the members of the group at a slot, or nobody any more.
use Rattle.std.specs.Prelude.{ℕ, ◌==◌, not, Bool, true, false, Option}
use Rattle.std.specs.Option.{option_map_or}
use Rattle.ring_core.specs.RingLog.{Reservation}
use Rattle.ring_core.specs.State.{base_in}
use Rattle.slot_core.specs.State.{Outcome, Granted, Refused, GroupPhase, Vacant, Gathering, Closed, Placed, Ready, Told, Emptied, Task, ring_stage}

-- who works on what begins at a base
pub data Owner : Type 0 where
  Nobody : Owner
  Actor : (actor : ℕ) → Owner
  Shared : (slot : ℕ) → Owner

-- it is this actor
abbrev pub is_actor : ℕ → Owner → Bool
is_actor actor Nobody = false
is_actor actor (Actor owner) = owner == actor
is_actor actor (Shared slot) = false

-- it is the members of the group at this slot
abbrev pub is_slot : ℕ → Owner → Bool
is_slot slot Nobody = false
is_slot slot (Actor owner) = false
is_slot slot (Shared owner) = owner == slot

-- it is somebody
abbrev pub is_owned : Owner → Bool
is_owned Nobody = false
is_owned (Actor owner) = true
is_owned (Shared owner) = true

-- the actor works on the reservation at this base, its own or that of a group which all others have released
abbrev pub works_on : ℕ → Task → Bool
works_on base task = option_map_or (λ b. b == base) (base_in (ring_stage task)) false

-- a range from this base on was granted
abbrev pub granted_at : ℕ → Outcome → Bool
granted_at base (Granted b) = b == base
granted_at base (Refused tail durable) = false

-- the group's range begins there, and not all of it is released
abbrev pub placed_at : ℕ → GroupPhase → Bool
placed_at base Vacant = false
placed_at base (Gathering leader total) = false
placed_at base (Closed leader total) = false
placed_at base (Placed leader total outcome) = granted_at base outcome
placed_at base (Ready leader total outcome) = granted_at base outcome
placed_at base (Told total outcome remaining) = granted_at base outcome
placed_at base (Emptied last) = false

-- there is such a reservation, and it isn't marked
abbrev pub is_open : Option Reservation → Bool
is_open r = option_map_or (λ q. not q.released) r false
