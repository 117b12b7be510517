-- What a run stands for, by which numbers it judges, and when it takes memory.
use Rattle.std.specs.Prelude.{◌≡◌, ℕ, true, IsSomeAnd}
use Rattle.ring_core.specs.declared.event.RingEvent.{RingEvent}
use Rattle.ring_core.specs.declared.event.RingEvent.TheVariants.{Reserve}
use Rattle.slot_core.specs.State.{Membership, SlotState, task_of, membership, group_at}
use Rattle.slot_core.specs.Machine.{GroupEvent, Join, Close, Place, PutBase, Tell, Hear, Release, Reopen, Ring, MayJoin, fits, closed_total, IsEnabled, IsRingEnabled}
use Rattle.slot_core.specs.declared.event.SlotEvent.{SlotEvent}
use Rattle.slot_core.specs.declared.event.SlotEvent.TheVariants.{Join as Joining, Close as Closing, Place as Placing, PutBase as PuttingBase}
use Rattle.slot_core.specs.declared.event.SlotEvent.TheVariants.{Tell as Telling, Hear as Hearing, Release as Releasing, Reopen as Reopening}
use Rattle.slot_core.specs.declared.event.SlotEvent.TheVariants.{Ring as InRingMachine}
use Rattle.slot_core.specs.declared.run.SlotRun.TheInside.{Inside}

-- the machine's state
abbrev pub state_of : Inside → SlotState
state_of run = record { log = run.log; hands = run.hands.items; groups = run.groups.items }

-- the run's event in the machine: a leader judges by the present tail and durable
abbrev pub event_at : SlotState → SlotEvent → GroupEvent
event_at s (Joining actor slot n) = Join actor slot n
event_at s (Closing actor) = Close actor
event_at s (Placing actor) = Place actor s.log.tail s.log.durable
event_at s (PuttingBase actor) = PutBase actor
event_at s (Telling actor) = Tell actor
event_at s (Hearing actor) = Hear actor
event_at s (Releasing actor) = Release actor
event_at s (Reopening actor) = Reopen actor
event_at s (InRingMachine event) = Ring event

-- the leader's group has room, by the present tail and durable
abbrev pub HasRoomFor : SlotState → Membership → Type 0
HasRoomFor s m = fits s.log (closed_total (group_at m.slot s.groups).phase) s.log.tail s.log.durable ≡ true

-- a leader whose group has room may place it
abbrev pub MayPlaceNow : SlotState → ℕ → Type 0
MayPlaceNow s actor =
    IsEnabled s (Place actor s.log.tail s.log.durable) × IsSomeAnd (membership (task_of actor s.hands)) (HasRoomFor s)

-- of the ring machine's events only a reservation that is enabled may need memory
abbrev pub MayNeedMemoryInRing : SlotState → RingEvent → Type 0
MayNeedMemoryInRing s (Reserve actor n) = IsRingEnabled s (Reserve actor n)
MayNeedMemoryInRing s _ = ⊥

-- only a join, a place or a reservation that is enabled may need memory; a place only where the group has room
abbrev pub MayNeedMemory : SlotState → SlotEvent → Type 0
MayNeedMemory s (Joining actor slot n) = MayJoin s actor slot n
MayNeedMemory s (Placing actor) = MayPlaceNow s actor
MayNeedMemory s (InRingMachine event) = MayNeedMemoryInRing s event
MayNeedMemory s _ = ⊥
