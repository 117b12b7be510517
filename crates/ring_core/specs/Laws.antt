-- What holds of each state that the machine reaches.
use Rattle.std.specs.Prelude.{◌≡◌, ℕ, ◌≤◌, true, false, List}
use Rattle.std.specs.Bool.{⊤}
use Rattle.std.specs.List.{AllByRecursion, find}
use Rattle.std.specs.Option.{IsSomeAnd}
use Rattle.ring_core.specs.LogLaws.{IsSoundLog}
use Rattle.ring_core.specs.RingLog.{RingLog, Reservation, is_at, is_marked, IsLogBoundary}
use Rattle.ring_core.specs.State.{Hand, Stage, Idle, Works, Marked, Holds, Raises, RingState, log_of, stage_of}

-- one actor works on the reservation at this base, and no other does
pub record HasOneOwner (hands : List Hand) (base : ℕ) : Type 0 where
  pub owner : ℕ
  pub works : stage_of owner hands ≡ Works base
  pub alone : (other : ℕ) → stage_of other hands ≡ Works base → other ≡ owner

-- a reservation is not marked
abbrev pub IsOpen : Reservation → Type 0
IsOpen r = r.released ≡ false

-- each reservation has one owner until it is marked, and none from then on
pub record HasOwners (hands : List Hand) (reservations : List Reservation) : Type 0 where
  pub owned : AllByRecursion (λ (r : Reservation). IsOpen r → HasOneOwner hands r.base) reservations
  pub at_work : (actor base : ℕ) → stage_of actor hands ≡ Works base → IsSomeAnd (find (is_at base) reservations) IsOpen

-- exposed may have been here: a boundary, at most exposed
pub record IsPassed (l : RingLog) (at : ℕ) : Type 0 where
  pub boundary : IsLogBoundary l at
  pub exposed : at ≤ l.exposed

-- an LSN in hand is a boundary, at most exposed; where exposed is about to be raised from there, the reservation there is marked
abbrev pub IsTrueHand : RingLog → Stage → Type 0
IsTrueHand l Idle = ⊤
IsTrueHand l (Works base) = ⊤
IsTrueHand l Marked = ⊤
IsTrueHand l (Holds at) = IsPassed l at
IsTrueHand l (Raises at) = IsPassed l at × (is_marked at l.reservations ≡ true)

-- the actor is on the way to expose what is marked at this place: it is yet to look at exposed, or has just this place in hand
abbrev pub IsOnTheWay : ℕ → Stage → Type 0
IsOnTheWay place Idle = ⊥
IsOnTheWay place (Works base) = ⊥
IsOnTheWay place Marked = ⊤
IsOnTheWay place (Holds at) = at ≡ place
IsOnTheWay place (Raises at) = at ≡ place

-- some actor is
pub record HasCarrier (hands : List Hand) (place : ℕ) : Type 0 where
  pub actor : ℕ
  pub on_the_way : IsOnTheWay place (stage_of actor hands)

-- nobody has anything in hand
abbrev pub IsAtRest : RingState → Type 0
IsAtRest s = (actor : ℕ) → stage_of actor s.hands ≡ Idle

-- the laws of the log, and those of the actors
pub record IsSound (s : RingState) : Type 0 where
  pub log : IsSoundLog (log_of s)
  pub owners : HasOwners s.hands s.reservations
  pub hands : (actor : ℕ) → IsTrueHand (log_of s) (stage_of actor s.hands)
  pub carried : is_marked s.exposed s.reservations ≡ true → HasCarrier s.hands s.exposed
  pub at_rest : IsAtRest s → s.exposed ≡ s.tail

-- whoever looks at the mark at the LSN in hand and finds none is at exposed itself: an older one is always marked
abbrev pub LooksLastAtExposed : RingState → Type 0
LooksLastAtExposed s = (actor at : ℕ) → stage_of actor s.hands ≡ Holds at → is_marked at s.reservations ≡ false → at ≡ s.exposed
