-- What the machine's state is made of: the log by its bases, and what each actor has in hand.
use Rattle.std.specs.Prelude.{ℕ, ◌==◌, if◌then◌else◌, Bool, List, [], ◌∷◌, Option, Some, None}
use Rattle.std.specs.List.{find}
use Rattle.ring_core.specs.RingLog.{RingLog, IsLogBoundary}
pub use Rattle.ring_core.specs.RingLog.{Reservation, base_of, size_of, is_at}
pub use Rattle.ring_core.specs.declared.stage.Stage.{Stage}
pub use Rattle.ring_core.specs.declared.stage.Stage.TheVariants.{Idle, Works, Marked, Holds, Raises}

-- an actor, and what it has in hand
pub record Hand : Type 0 where
  pub actor : ℕ
  pub stage : Stage

-- the log, and the actors that ever had something in hand
pub record RingState : Type 0 where
  pub start : ℕ
  pub ring : ℕ
  pub reservations : List Reservation
  pub hands : List Hand
  pub tail : ℕ
  pub exposed : ℕ
  pub durable : ℕ

-- what of the state belongs to bases
abbrev pub log_of : RingState → RingLog
log_of s = record {
  start = s.start;
  ring = s.ring;
  reservations = s.reservations;
  tail = s.tail;
  exposed = s.exposed;
  durable = s.durable;
}

-- this log, and actors that have this in hand
abbrev pub state : RingLog → List Hand → RingState
state l hands = record {
  start = l.start;
  ring = l.ring;
  reservations = l.reservations;
  hands = hands;
  tail = l.tail;
  exposed = l.exposed;
  durable = l.durable;
}

-- the actor with this in hand
abbrev pub row_of : ℕ → Stage → Hand
row_of actor stage = record { actor = actor; stage = stage }

-- what the actor has in hand; one that is not listed has nothing
abbrev pub stage_of : ℕ → List Hand → Stage
stage_of actor [] = Idle
stage_of actor (hand ∷ hands) = if hand.actor == actor then hand.stage else stage_of actor hands

-- the hands, but that the actor has this
abbrev pub with_stage : ℕ → Stage → List Hand → List Hand
with_stage actor stage [] = row_of actor stage ∷ []
with_stage actor stage (hand ∷ hands) =
    if hand.actor == actor then row_of actor stage ∷ hands else hand ∷ with_stage actor stage hands

-- the log starts at this place, or a reservation ends there
abbrev pub IsRingBoundary : RingState → ℕ → Type 0
IsRingBoundary s place = IsLogBoundary (log_of s) place

-- the base that an actor works on
abbrev pub base_in : Stage → Option ℕ
base_in Idle = None
base_in (Works base) = Some base
base_in Marked = None
base_in (Holds at) = None
base_in (Raises at) = None

-- the LSN at whose mark an actor is about to look
abbrev pub looks_at : Stage → Option ℕ
looks_at Idle = None
looks_at (Works base) = None
looks_at Marked = None
looks_at (Holds at) = Some at
looks_at (Raises at) = None

-- the LSN from which an actor is about to raise exposed
abbrev pub raises_from : Stage → Option ℕ
raises_from Idle = None
raises_from (Works base) = None
raises_from Marked = None
raises_from (Holds at) = None
raises_from (Raises at) = Some at

-- what an actor turns to that held this LSN, and looked whether the reservation there is marked
abbrev pub after_look : ℕ → Bool → Stage
after_look at marked = if marked then Raises at else Idle

-- the reservation that a stage works on
abbrev pub worked_on : Stage → List Reservation → Option Reservation
worked_on Idle reservations = None
worked_on (Works base) reservations = find (is_at base) reservations
worked_on Marked reservations = None
worked_on (Holds at) reservations = None
worked_on (Raises at) reservations = None

-- the reservation that the actor works on
abbrev pub in_hand : RingState → ℕ → Option Reservation
in_hand s actor = worked_on (stage_of actor s.hands) s.reservations
