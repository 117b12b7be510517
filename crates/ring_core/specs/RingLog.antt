-- The half of the machine that belongs to bases: what of the log is reserved, filled, released, exposed and durable. It names no
-- actor, so that any machine of actors can stand on it. Places are LSNs, counted in units.
use Rattle.std.specs.Prelude.{◌≡◌, ℕ, ◌+◌, ◌/◌, ◌<◌, ◌≤◌, ◌==◌, if◌then◌else◌, Bool, true, false, List, [], ◌∷◌, ◌++◌, map}
use Rattle.std.specs.List.{find}
use Rattle.std.specs.Option.{option_map_or}
use Rattle.lsn_space.specs.declared.lsn.TheConstants.{LAST}
use Rattle.lsn_space.specs.Tiling.{IsTilingBoundary}

-- a range of the log that was reserved, how many of its units are filled, and whether it is released
pub record Reservation : Type 0 where
  pub base : ℕ
  pub size : ℕ
  pub filled : ℕ
  pub released : Bool

-- where the log starts, how long its ring is, the reservations in order, and the tail, exposed and durable
pub record RingLog : Type 0 where
  pub start : ℕ
  pub ring : ℕ
  pub reservations : List Reservation
  pub tail : ℕ
  pub exposed : ℕ
  pub durable : ℕ

abbrev pub base_of : Reservation → ℕ
base_of r = r.base

abbrev pub size_of : Reservation → ℕ
size_of r = r.size

abbrev pub end_of : Reservation → ℕ
end_of r = r.base + r.size

-- the reservation starts at this base
abbrev pub is_at : ℕ → Reservation → Bool
is_at base r = r.base == base

-- the log starts at this place, or a reservation ends there
abbrev pub IsLogBoundary : RingLog → ℕ → Type 0
IsLogBoundary l place = IsTilingBoundary size_of l.start l.reservations place

-- a reservation starts at this place, and it is marked as released
abbrev pub is_marked : ℕ → List Reservation → Bool
is_marked place reservations = option_map_or (λ r. r.released) (find (is_at place) reservations) false

-- where the reservation at this base ends; the base, where there is none
abbrev pub end_at : ℕ → List Reservation → ℕ
end_at base reservations = option_map_or end_of (find (is_at base) reservations) base

-- an empty log from `start` on, with a ring of so many units
abbrev pub empty_log : ℕ → ℕ → RingLog
empty_log start ring = record { start = start; ring = ring; reservations = []; tail = start; exposed = start; durable = start }

-- n units may be reserved: up to a quarter of the ring, where the log and the ring have room
pub record HasRoom (l : RingLog) (n : ℕ) : Type 0 where
  pub positive : 1 ≤ n
  pub quarter : n ≤ l.ring / 4
  pub within_log : l.tail + n ≤ LAST
  pub within_ring : l.tail + n ≤ l.durable + l.ring

-- a reservation with no unit filled
abbrev pub fresh : ℕ → ℕ → Reservation
fresh base size = record { base = base; size = size; filled = 0; released = false }

-- the next n units are reserved
abbrev pub reserved : RingLog → ℕ → RingLog
reserved l n = record l { reservations = l.reservations ++ fresh l.tail n ∷ []; tail = l.tail + n }

-- a unit of the reservation is not yet filled
abbrev pub HasUnfilled : Reservation → Type 0
HasUnfilled r = r.filled < r.size

-- the reservation with one more unit filled, if it is the one at this base
abbrev pub filled_at : ℕ → Reservation → Reservation
filled_at base r = record r { filled = if r.base == base then r.filled + 1 else r.filled }

-- one more unit of the reservation at this base is filled
abbrev pub filled : RingLog → ℕ → RingLog
filled l base = record l { reservations = map (filled_at base) l.reservations }

-- all units of the reservation are filled
abbrev pub IsFull : Reservation → Type 0
IsFull r = r.filled ≡ r.size

-- the reservation as a released one, if it is the one at this base
abbrev pub released_at : ℕ → Reservation → Reservation
released_at base r = record r { released = if r.base == base then true else r.released }

-- the reservation at this base is marked as released
abbrev pub marked : RingLog → ℕ → RingLog
marked l base = record l { reservations = map (released_at base) l.reservations }

-- exposed is raised from this base to the end of the reservation there; where it is no more at this base, it stays
abbrev pub raised : RingLog → ℕ → RingLog
raised l base = record l { exposed = if l.exposed == base then end_at base l.reservations else l.exposed }

-- units up to `to` may be durable from now on: no fewer than are, only exposed ones, and whole reservations
pub record MayFlush (l : RingLog) (to : ℕ) : Type 0 where
  pub forward : l.durable ≤ to
  pub exposed : to ≤ l.exposed
  pub boundary : IsLogBoundary l to

-- everything below is durable
abbrev pub flushed : RingLog → ℕ → RingLog
flushed l to = record l { durable = to }
