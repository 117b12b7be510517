-- The machine: when an event is enabled, the state after it, and runs through lists of events.
use Rattle.std.specs.Prelude.{◌≡◌, ◌&&◌, ℕ, ◌+◌, ◌/◌, ◌<◌, ◌≤◌, nat_le, if◌then◌else◌, Bool, true, false, List, [], ◌∷◌, ◌++◌, length, set, replicate, IsSome, IsSomeAnd, Option, Some, None}
use Rattle.lsn_space.specs.declared.lsn.TheConstants.{LAST}
use Rattle.ring_core.specs.RingLog.{RingLog, HasRoom, HasUnfilled, IsFull, MayFlush, is_marked, empty_log, reserved, filled, marked, raised, flushed}
use Rattle.ring_core.specs.State.{base_in, looks_at, raises_from, worked_on, after_look}
use Rattle.ring_core.specs.declared.event.RingEvent.{RingEvent}
use Rattle.ring_core.specs.declared.event.RingEvent.TheVariants.{Reserve, Fill, Mark, LookExposed, LookMark, Raise, Flushed}
use Rattle.slot_parts.specs.declared.task.TheConstants.{LONGEST_PIECE}
pub use Rattle.slot_parts.specs.Tasks.{HasUnfilledPiece, HasDone, next_stage, stage_heard, stage_filled, at_stage, in_ring, task_emptying}
pub use Rattle.slot_parts.specs.Phases.{HasPlace, gathered, stage_joined, task_joined, phase_joined, closed_total, next_phase, told_outcome, granted_base, phase_released, task_released}
use Rattle.slot_core.specs.State.{Idle, Works, Marked, Holds, Granted, Refused, Placed, MemberStage, Closes, Waits, Places, Stores, Tells, Membership}
use Rattle.slot_core.specs.State.{Task, Joined, InRing, Group, SlotState, nothing, task_of, with_task, membership, ring_stage, reopening, member}
use Rattle.slot_core.specs.State.{group, empty_group, group_at, without}

-- one atomic action. A leader judges whether its group has room by this tail and this durable
pub data GroupEvent : Type 0 where
  Join : (actor slot n : ℕ) → GroupEvent
  Close : (actor : ℕ) → GroupEvent
  Place : (actor tail durable : ℕ) → GroupEvent
  PutBase : (actor : ℕ) → GroupEvent
  Tell : (actor : ℕ) → GroupEvent
  Hear : (actor : ℕ) → GroupEvent
  Release : (actor : ℕ) → GroupEvent
  Reopen : (actor : ℕ) → GroupEvent
  Ring : RingEvent → GroupEvent

-- an empty log from `start` on, with a ring of so many units, and so many slots with nobody there
abbrev pub start_state : ℕ → ℕ → ℕ → SlotState
start_state start ring slots = record { log = empty_log start ring; hands = []; groups = replicate slots empty_group }

-- an actor with nothing in hand may join a group with n units, up to those of the longest record
pub record MayJoin (s : SlotState) (actor slot n : ℕ) : Type 0 where
  pub idle : task_of actor s.hands ≡ nothing
  pub there : slot < length s.groups
  pub positive : 1 ≤ n
  pub one_record : n ≤ LONGEST_PIECE
  pub place : HasPlace (s.log.ring / 4) n (group_at slot s.groups).phase

-- a group of this total fits, by this tail and this durable
abbrev pub fits : RingLog → ℕ → ℕ → ℕ → Bool
fits l total tail durable = nat_le (tail + total) LAST && nat_le (tail + total) (durable + l.ring)

-- a leader places its group by a tail and a durable that are at most the present ones; where the group fits, this tail is the present one
pub record MayPlace (s : SlotState) (tail durable : ℕ) (m : Membership) : Type 0 where
  pub places : m.stage ≡ Places
  pub tail_seen : tail ≤ s.log.tail
  pub durable_seen : durable ≤ s.log.durable
  pub present : fits s.log (closed_total (group_at m.slot s.groups).phase) tail durable ≡ true → tail ≡ s.log.tail

-- one that waits hears what became of its group, once it is told
pub record MayHear (s : SlotState) (m : Membership) : Type 0 where
  pub waits : m.stage ≡ Waits
  pub told : IsSome (told_outcome (group_at m.slot s.groups).phase)

-- an actor may fill the next unit of its own piece, or of the reservation that it works on
abbrev pub MayFill : SlotState → Task → Type 0
MayFill s (Joined m) = HasUnfilledPiece m.size m.stage
MayFill s (InRing reopens stage) = IsSomeAnd (worked_on stage s.log.reservations) HasUnfilled

-- a member that is at this stage
abbrev pub IsMemberAt : MemberStage → Task → Type 0
IsMemberAt stage task = IsSomeAnd (membership task) (λ m. m.stage ≡ stage)

-- what the ring machine asks of an actor's task
abbrev pub IsRingEnabled : SlotState → RingEvent → Type 0
IsRingEnabled s (Reserve actor n) = (task_of actor s.hands ≡ nothing) × HasRoom s.log n
IsRingEnabled s (Fill actor) = MayFill s (task_of actor s.hands)
IsRingEnabled s (Mark actor) = IsSomeAnd (worked_on (ring_stage (task_of actor s.hands)) s.log.reservations) IsFull
IsRingEnabled s (LookExposed actor) = ring_stage (task_of actor s.hands) ≡ Marked
IsRingEnabled s (LookMark actor) = IsSome (looks_at (ring_stage (task_of actor s.hands)))
IsRingEnabled s (Raise actor) = IsSome (raises_from (ring_stage (task_of actor s.hands)))
IsRingEnabled s (Flushed to) = MayFlush s.log to

-- an actor has nothing more to do in the ring, and a slot to open
abbrev pub MayReopen : Task → Type 0
MayReopen task = (ring_stage task ≡ Idle) × IsSome (reopening task)

-- the event may happen now
abbrev pub IsEnabled : SlotState → GroupEvent → Type 0
IsEnabled s (Join actor slot n) = MayJoin s actor slot n
IsEnabled s (Close actor) = IsMemberAt Closes (task_of actor s.hands)
IsEnabled s (Place actor tail durable) = IsSomeAnd (membership (task_of actor s.hands)) (MayPlace s tail durable)
IsEnabled s (PutBase actor) = IsMemberAt Stores (task_of actor s.hands)
IsEnabled s (Tell actor) = IsMemberAt Tells (task_of actor s.hands)
IsEnabled s (Hear actor) = IsSomeAnd (membership (task_of actor s.hands)) (MayHear s)
IsEnabled s (Release actor) = IsSomeAnd (membership (task_of actor s.hands)) (λ m. HasDone m.size m.stage)
IsEnabled s (Reopen actor) = MayReopen (task_of actor s.hands)
IsEnabled s (Ring event) = IsRingEnabled s event

-- the actor turns to this, and nothing else changes
abbrev pub turned : SlotState → ℕ → Task → SlotState
turned s actor task = record s { hands = with_task actor task s.hands }

-- the actor turns to this, and the slot has this group
abbrev pub moved : SlotState → ℕ → ℕ → Task → Group → SlotState
moved s actor slot task g = record s { hands = with_task actor task s.hands; groups = set s.groups slot g }

-- who joins stands behind those who are there: its offset is the total before
abbrev pub group_joined : ℕ → ℕ → Group → Group
group_joined actor n g = group (g.members ++ member actor (gathered g.phase) n ∷ []) (phase_joined actor n g.phase)

-- the actor has joined
abbrev pub after_join : SlotState → ℕ → ℕ → ℕ → Group → SlotState
after_join s actor slot n g = moved s actor slot (task_joined slot n g.phase) (group_joined actor n g)

-- the leader has closed its group, stored its outcome, or told it
abbrev pub after_lead : SlotState → ℕ → Option Membership → SlotState
after_lead s actor None = s
after_lead s actor (Some m) = moved s actor m.slot (at_stage (next_stage m.stage) m)
    (group (group_at m.slot s.groups).members (next_phase (group_at m.slot s.groups).phase))

-- a placed group of this total, whose range is reserved at the tail where it fits
abbrev pub placed_group : SlotState → ℕ → ℕ → ℕ → ℕ → ℕ → Bool → Group
placed_group s actor slot total tail durable true = group (group_at slot s.groups).members (Placed actor total (Granted s.log.tail))
placed_group s actor slot total tail durable false = group (group_at slot s.groups).members (Placed actor total (Refused tail durable))

-- the leader has placed its group: its range is reserved at the tail where it fits, else it is refused by this tail and this durable
abbrev pub after_place : SlotState → ℕ → ℕ → ℕ → Option Membership → SlotState
after_place s actor tail durable None = s
after_place s actor tail durable (Some m) =
    let total : ℕ = closed_total (group_at m.slot s.groups).phase in
    let is_granted : Bool = fits s.log total tail durable in record {
      log = if is_granted then reserved s.log total else s.log;
      hands = with_task actor (at_stage Stores m) s.hands;
      groups = set s.groups m.slot (placed_group s actor m.slot total tail durable is_granted);
    }

-- a member has heard what became of its group
abbrev pub after_hear : SlotState → ℕ → Option Membership → SlotState
after_hear s actor None = s
after_hear s actor (Some m) = turned s actor (at_stage (stage_heard (told_outcome (group_at m.slot s.groups).phase)) m)

-- one more unit of the reservation at this base is filled
abbrev pub log_filled : RingLog → Option ℕ → RingLog
log_filled l None = l
log_filled l (Some base) = filled l base

-- one more unit is filled, of a member's piece or of the reservation that the actor works on
abbrev pub after_fill : SlotState → ℕ → Task → SlotState
after_fill s actor (Joined m) = record s {
  log = log_filled s.log (granted_base (told_outcome (group_at m.slot s.groups).phase));
  hands = with_task actor (at_stage (stage_filled m.stage) m) s.hands;
}
after_fill s actor (InRing reopens stage) = record s { log = log_filled s.log (base_in stage) }

-- a member has released
abbrev pub after_release : SlotState → ℕ → Option Membership → SlotState
after_release s actor None = s
after_release s actor (Some m) = moved s actor m.slot (task_released m.slot m.size (group_at m.slot s.groups).phase)
    (group (without actor (group_at m.slot s.groups).members) (phase_released actor m.size (group_at m.slot s.groups).phase))

-- the reservation at this base is marked, and the actor is to look at exposed
abbrev pub after_mark : SlotState → ℕ → Task → Option ℕ → SlotState
after_mark s actor task None = s
after_mark s actor task (Some base) = record s { log = marked s.log base; hands = with_task actor (in_ring Marked task) s.hands }

-- where the reservation at this LSN is marked the actor is about to raise exposed from there, else it has nothing more to do in the ring
abbrev pub after_look_mark : SlotState → ℕ → Task → Option ℕ → SlotState
after_look_mark s actor task None = s
after_look_mark s actor task (Some at) = turned s actor (in_ring (after_look at (is_marked at s.log.reservations)) task)

-- exposed is raised from this LSN, unless it has moved: then it stays. The actor has in hand what exposed is now
abbrev pub after_raise : SlotState → ℕ → Task → Option ℕ → SlotState
after_raise s actor task None = s
after_raise s actor task (Some at) =
    record s { log = raised s.log at; hands = with_task actor (in_ring (Holds (raised s.log at).exposed) task) s.hands }

-- the slot is vacant again
abbrev pub after_reopen : SlotState → ℕ → Option ℕ → SlotState
after_reopen s actor None = s
after_reopen s actor (Some slot) = moved s actor slot nothing empty_group

-- the state after an event of the ring machine that is enabled
abbrev pub ring_after : SlotState → RingEvent → SlotState
ring_after s (Reserve actor n) = record s { log = reserved s.log n; hands = with_task actor (InRing None (Works s.log.tail)) s.hands }
ring_after s (Fill actor) = after_fill s actor (task_of actor s.hands)
ring_after s (Mark actor) = after_mark s actor (task_of actor s.hands) (base_in (ring_stage (task_of actor s.hands)))
ring_after s (LookExposed actor) = turned s actor (in_ring (Holds s.log.exposed) (task_of actor s.hands))
ring_after s (LookMark actor) = after_look_mark s actor (task_of actor s.hands) (looks_at (ring_stage (task_of actor s.hands)))
ring_after s (Raise actor) = after_raise s actor (task_of actor s.hands) (raises_from (ring_stage (task_of actor s.hands)))
ring_after s (Flushed to) = record s { log = flushed s.log to }

-- the state after an event that is enabled
abbrev pub state_after : SlotState → GroupEvent → SlotState
state_after s (Join actor slot n) = after_join s actor slot n (group_at slot s.groups)
state_after s (Close actor) = after_lead s actor (membership (task_of actor s.hands))
state_after s (Place actor tail durable) = after_place s actor tail durable (membership (task_of actor s.hands))
state_after s (PutBase actor) = after_lead s actor (membership (task_of actor s.hands))
state_after s (Tell actor) = after_lead s actor (membership (task_of actor s.hands))
state_after s (Hear actor) = after_hear s actor (membership (task_of actor s.hands))
state_after s (Release actor) = after_release s actor (membership (task_of actor s.hands))
state_after s (Reopen actor) = after_reopen s actor (reopening (task_of actor s.hands))
state_after s (Ring event) = ring_after s event

-- the machine takes the event, and goes on to the state after it, or refuses it and stays: it takes what is enabled
abbrev pub GroupStep : SlotState → GroupEvent → Bool → SlotState → Type 0
GroupStep old event true new = IsEnabled old event × (new ≡ state_after old event)
GroupStep old event false new = (¬ IsEnabled old event) × (new ≡ old)

-- the events, one after another, lead from old to new
abbrev pub RunsGroups : SlotState → List GroupEvent → SlotState → Type 0
RunsGroups old [] new = new ≡ old
RunsGroups old (event ∷ events) new = (taken : Bool) × (mid : SlotState) × GroupStep old event taken mid × RunsGroups mid events new
