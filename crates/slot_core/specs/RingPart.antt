-- The ring machine as the part of this one without slots.
use Rattle.std.specs.Prelude.{List, [], ◌∷◌, map, None}
use Rattle.ring_core.specs.State.{Hand as RingHand, RingState, log_of}
use Rattle.ring_core.specs.declared.event.RingEvent.{RingEvent}
use Rattle.slot_core.specs.State.{InRing, Hand, Group, SlotState}
use Rattle.slot_core.specs.Machine.{GroupEvent, Join, Close, Place, PutBase, Tell, Hear, Release, Reopen, Ring}

-- what an actor of the ring machine has in hand, as a task that opens no slot
abbrev pub hand_alone : RingHand → Hand
hand_alone h = record { actor = h.actor; task = InRing None h.stage }

-- a state of the ring machine, with these groups beside it
abbrev pub with_groups : List Group → RingState → SlotState
with_groups groups s = record { log = log_of s; hands = map hand_alone s.hands; groups = groups }

-- the events of the ring machine among these
abbrev pub ring_events : List GroupEvent → List RingEvent
ring_events [] = []
ring_events (Join actor slot n ∷ events) = ring_events events
ring_events (Close actor ∷ events) = ring_events events
ring_events (Place actor tail durable ∷ events) = ring_events events
ring_events (PutBase actor ∷ events) = ring_events events
ring_events (Tell actor ∷ events) = ring_events events
ring_events (Hear actor ∷ events) = ring_events events
ring_events (Release actor ∷ events) = ring_events events
ring_events (Reopen actor ∷ events) = ring_events events
ring_events (Ring event ∷ events) = event ∷ ring_events events

-- nobody joins
abbrev pub IsNoJoin : GroupEvent → Type 0
IsNoJoin (Join actor slot n) = ⊥
IsNoJoin (Close actor) = Unit {0}
IsNoJoin (Place actor tail durable) = Unit {0}
IsNoJoin (PutBase actor) = Unit {0}
IsNoJoin (Tell actor) = Unit {0}
IsNoJoin (Hear actor) = Unit {0}
IsNoJoin (Release actor) = Unit {0}
IsNoJoin (Reopen actor) = Unit {0}
IsNoJoin (Ring event) = Unit {0}
