-- The machine: when an event is enabled, the state after it, and runs through lists of events.
use Rattle.std.specs.Prelude.{◌≡◌, ℕ, Bool, true, false, List, [], ◌∷◌, Option, Some, None}
use Rattle.std.specs.Option.{IsSome, IsSomeAnd}
use Rattle.ring_core.specs.RingLog.{HasRoom, IsFull, MayFlush, is_marked, empty_log, reserved, filled, marked, raised, flushed}
use Rattle.ring_core.specs.State.{Reservation, Stage, Idle, Works, Marked, Holds, RingState, log_of, state, stage_of, with_stage, looks_at, raises_from, after_look, in_hand}
use Rattle.ring_core.specs.declared.event.RingEvent.{RingEvent}
use Rattle.ring_core.specs.declared.event.RingEvent.TheVariants.{Reserve, Fill, Mark, LookExposed, LookMark, Raise, Flushed}
pub use Rattle.ring_core.specs.RingLog.{HasUnfilled, filled_at, released_at}

-- an empty log from `start` on, with a ring of so many units
abbrev pub start_state : ℕ → ℕ → RingState
start_state start ring = state (empty_log start ring) []

-- an actor with nothing in hand may reserve where there is room
pub record MayReserve (s : RingState) (actor n : ℕ) : Type 0 where
  pub idle : stage_of actor s.hands ≡ Idle
  pub room : HasRoom (log_of s) n

-- the event may happen now
abbrev pub IsEnabled : RingState → RingEvent → Type 0
IsEnabled s (Reserve actor n) = MayReserve s actor n
IsEnabled s (Fill actor) = IsSomeAnd (in_hand s actor) HasUnfilled
IsEnabled s (Mark actor) = IsSomeAnd (in_hand s actor) IsFull
IsEnabled s (LookExposed actor) = stage_of actor s.hands ≡ Marked
IsEnabled s (LookMark actor) = IsSome (looks_at (stage_of actor s.hands))
IsEnabled s (Raise actor) = IsSome (raises_from (stage_of actor s.hands))
IsEnabled s (Flushed to) = MayFlush (log_of s) to

-- the actor turns to this, and the log stays
abbrev pub turned : RingState → ℕ → Stage → RingState
turned s actor stage = state (log_of s) (with_stage actor stage s.hands)

-- the actor has reserved the next n units
abbrev pub after_reserve : RingState → ℕ → ℕ → RingState
after_reserve s actor n = state (reserved (log_of s) n) (with_stage actor (Works s.tail) s.hands)

-- one more unit of the reservation that the actor works on is filled
abbrev pub after_fill : RingState → Option Reservation → RingState
after_fill s None = s
after_fill s (Some r) = state (filled (log_of s) r.base) s.hands

-- the reservation that the actor works on is marked as released, wherever exposed is
abbrev pub after_mark : RingState → ℕ → Option Reservation → RingState
after_mark s actor None = s
after_mark s actor (Some r) = state (marked (log_of s) r.base) (with_stage actor Marked s.hands)

-- the actor has exposed in hand
abbrev pub after_look_exposed : RingState → ℕ → RingState
after_look_exposed s actor = turned s actor (Holds s.exposed)

-- where the reservation at the LSN in hand is marked the actor is about to raise exposed from there, else it has nothing in hand
abbrev pub after_look_mark : RingState → ℕ → Option ℕ → RingState
after_look_mark s actor None = s
after_look_mark s actor (Some at) = turned s actor (after_look at (is_marked at s.reservations))

-- exposed is raised from the LSN in hand, unless it has moved: then it stays. The actor has in hand what exposed is now
abbrev pub after_raise : RingState → ℕ → Option ℕ → RingState
after_raise s actor None = s
after_raise s actor (Some at) =
    state (raised (log_of s) at) (with_stage actor (Holds (raised (log_of s) at).exposed) s.hands)

-- the state after an event that is enabled
abbrev pub state_after : RingState → RingEvent → RingState
state_after s (Reserve actor n) = after_reserve s actor n
state_after s (Fill actor) = after_fill s (in_hand s actor)
state_after s (Mark actor) = after_mark s actor (in_hand s actor)
state_after s (LookExposed actor) = after_look_exposed s actor
state_after s (LookMark actor) = after_look_mark s actor (looks_at (stage_of actor s.hands))
state_after s (Raise actor) = after_raise s actor (raises_from (stage_of actor s.hands))
state_after s (Flushed to) = state (flushed (log_of s) to) s.hands

-- the machine takes the event, and goes on to the state after it, or refuses it and stays: it takes what is enabled
abbrev pub RingStep : RingState → RingEvent → Bool → RingState → Type 0
RingStep old event true new = IsEnabled old event × (new ≡ state_after old event)
RingStep old event false new = (¬ IsEnabled old event) × (new ≡ old)

-- the events, one after another, lead from old to new
abbrev pub RunsRing : RingState → List RingEvent → RingState → Type 0
RunsRing old [] new = new ≡ old
RunsRing old (event ∷ events) new = (taken : Bool) × (mid : RingState) × RingStep old event taken mid × RunsRing mid events new
