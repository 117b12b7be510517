-- What holds of the log in the ring, whoever works on it.
use Rattle.std.specs.Prelude.{◌≡◌, ◌+◌, ◌/◌, ◌<◌, ◌≤◌, true}
use Rattle.std.specs.List.{AllByRecursion}
use Rattle.lsn_space.specs.declared.lsn.TheConstants.{LAST}
use Rattle.lsn_space.specs.Tiling.{IsTiling}
use Rattle.ring_core.specs.RingLog.{Reservation, RingLog, base_of, size_of, IsLogBoundary, IsFull}

-- every unit below exposed is filled
abbrev pub NothingUnfilledExposed : RingLog → Type 0
NothingUnfilledExposed l = AllByRecursion (λ (r : Reservation). r.base < l.exposed → IsFull r) l.reservations

-- each law by its name: reservations tile the log from the start to the tail, none is released before it is full, and everything
-- below exposed is released
pub record IsSoundLog (l : RingLog) : Type 0 where
  pub tiles : IsTiling base_of size_of l.start l.reservations l.tail
  pub sizes : AllByRecursion (λ (r : Reservation). (1 ≤ r.size) × (r.size ≤ l.ring / 4)) l.reservations
  pub counted : AllByRecursion (λ (r : Reservation). r.filled ≤ r.size) l.reservations
  pub full : AllByRecursion (λ (r : Reservation). r.released ≡ true → IsFull r) l.reservations
  pub past : AllByRecursion (λ (r : Reservation). r.base < l.exposed → r.released ≡ true) l.reservations
  pub filled : NothingUnfilledExposed l
  pub flushed : l.durable ≤ l.exposed
  pub exposed : l.exposed ≤ l.tail
  pub within_ring : l.tail ≤ l.durable + l.ring
  pub within_log : l.tail ≤ LAST
  pub durable_boundary : IsLogBoundary l l.durable
  pub exposed_boundary : IsLogBoundary l l.exposed
