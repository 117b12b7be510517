-- What a table shows of the machine with slots, and which of its events a step is. What speaks of steps uses these names, and not those of
-- the machine itself. Those of the machine without slots are `Ring` there.
use Rattle.std.specs.Prelude.{◌≡◌, ℕ, ◌+◌, true, List, [], ◌∷◌, map, set, zero, suc, Some, None}
use mathlib.Core.Option.{some}
use lib.ListN.{get_elem?}
use Rattle.ring_core.specs.RingLog.{Reservation, RingLog}
use Rattle.ring_core.specs.declared.event.RingEvent.TheVariants.{Reserve, Fill, Mark, LookExposed, LookMark, Raise, Flushed}
use Rattle.slot_core.specs.State.{Idle, Works, Marked, Holds, Raises, Task, InRing, Hand, SlotState, nothing, joined, member, group}
use Rattle.slot_core.specs.State as machine
use Rattle.slot_core.specs.Machine.{GroupEvent, Join, Close, Place, PutBase, Tell, Hear, Reopen, Ring, GroupStep, Release}
use Rattle.log_rule.specs.declared.start.Start.{Start}
use Rattle.log_rule.specs.declared.view.Call.{Call}
use Rattle.log_rule.specs.declared.view.Call.TheVariants as call
use Rattle.log_rule.specs.declared.view.View.{View}
use Rattle.log_rule.specs.Groups.{Member, Group}
use Rattle.log_rule.specs.GroupViews.{stage_of, slot_after}
use Rattle.table_layout.specs.Layout.{Word}
use Rattle.log_rule.specs.Log.{Part, LogRange, Log, ranges_of, filled_in, is_released}
use Rattle.log_rule.specs.Sound.{IsSound}
use Rattle.log_rule.specs.Words.{Words, word_at, with_word}

-- a range as the machine's reservation: the units that its parts have filled are counted
abbrev pub reservation_of : List Part → LogRange → Reservation
reservation_of parts range =
    record { base = range.base; size = range.size; filled = filled_in range.base range.size parts; released = is_released range.duty }

-- what a call has in hand, as the machine says it
abbrev pub task_in : Call → Task
task_in call.Idle = nothing
task_in (call.Filling entry) = InRing None (Works entry.start)
task_in (call.Joined slot piece step) = joined slot piece.offset piece.size (stage_of step)
task_in (call.Emptying slot base total) = InRing (Some slot) (Works base)
task_in (call.Marked after) = InRing (slot_after after) Marked
task_in (call.Holding at after) = InRing (slot_after after) (Holds at)
task_in (call.Raising from to after) = InRing (slot_after after) (Raises from)
task_in (call.Reopening slot) = InRing (Some slot) Idle

-- the seats from this number on are the machine's actors
abbrev pub hands_of : ℕ → List View → List Hand
hands_of seat [] = []
hands_of seat (view ∷ views) = record { actor = seat; task = task_in view.call } ∷ hands_of (seat + 1) views

-- what of the machine's state names no actor
abbrev pub ring_of : Start → Words → Log → RingLog
ring_of key words log = record {
  start = key.start;
  ring = key.ring;
  reservations = map (reservation_of log.parts) (ranges_of log);
  tail = words.tail;
  exposed = words.exposed;
  durable = words.durable;
}

-- a member and a group, as the machine says them
abbrev pub member_shown : Member → machine.Member
member_shown m = member m.seat m.piece.offset m.piece.size

abbrev pub group_shown : Group → machine.Group
group_shown g = group (map member_shown g.members) g.phase

-- so many groups, from a slot on
abbrev pub groups_from : ℕ → ℕ → (ℕ → Group) → List machine.Group
groups_from slot zero groups = []
groups_from slot (suc more) groups = group_shown (groups slot) ∷ groups_from (slot + 1) more groups

-- the state of the machine that a table shows
abbrev pub slots_of : Start → Words → List View → Log → SlotState
slots_of key words views log =
    record { log = ring_of key words log; hands = hands_of 0 views; groups = groups_from 0 key.slots log.groups }

-- what a step is to the machine: one of its events, two that are one step of the table, or none
pub data Event : Type 0 where
  Nothing : Event
  One : GroupEvent → Event
  Two : GroupEvent → GroupEvent → Event

-- the seat reserves n units
abbrev pub reserves : ℕ → ℕ → Event
reserves seat n = One (Ring (Reserve seat n))

-- the seat fills the next unit of its range or its piece
abbrev pub fills : ℕ → Event
fills seat = One (Ring (Fill seat))

-- the seat marks its range, or its group's, as released
abbrev pub marks : ℕ → Event
marks seat = One (Ring (Mark seat))

-- the seat looks at exposed, after a mark that it has just made
abbrev pub looks_exposed : ℕ → Event
looks_exposed seat = One (Ring (LookExposed seat))

-- the seat looks at the mark at the LSN in hand
abbrev pub looks_mark : ℕ → Event
looks_mark seat = One (Ring (LookMark seat))

-- the seat raises exposed from the LSN in hand, or finds that it has moved
abbrev pub raises : ℕ → Event
raises seat = One (Ring (Raise seat))

-- the seat joins the group at a slot with n units
abbrev pub joins : ℕ → ℕ → ℕ → Event
joins seat slot n = One (Join seat slot n)

-- the seat closes the group that it leads
abbrev pub closes : ℕ → Event
closes seat = One (Close seat)

-- the seat reserves the range of the group that it leads, by this tail and this durable
abbrev pub places : ℕ → ℕ → ℕ → Event
places seat tail durable = One (Place seat tail durable)

-- the seat stores where the range of its group begins
abbrev pub stores_base : ℕ → Event
stores_base seat = One (PutBase seat)

-- the seat's group is refused by this tail and this durable, and the seat stores these
abbrev pub refuses : ℕ → ℕ → ℕ → Event
refuses seat tail durable = Two (Place seat tail durable) (PutBase seat)

-- the seat tells the group that it leads what became of it
abbrev pub tells : ℕ → Event
tells seat = One (Tell seat)

-- the seat hears what became of its group
abbrev pub hears : ℕ → Event
hears seat = One (Hear seat)

-- the seat releases its piece of the group
abbrev pub releases : ℕ → Event
releases seat = One (Release seat)

-- the seat opens its slot again
abbrev pub reopens : ℕ → Event
reopens seat = One (Reopen seat)

-- all below is on the disk
abbrev pub flushes : ℕ → Event
flushes to = One (Ring (Flushed to))

abbrev pub none : Event
none = Nothing

-- what a load of exposed is: an event after a mark just made, and none else
abbrev pub look_event : ℕ → Call → Event
look_event seat call.Idle = none
look_event seat (call.Filling entry) = none
look_event seat (call.Joined slot piece step) = none
look_event seat (call.Emptying slot base total) = none
look_event seat (call.Marked after) = looks_exposed seat
look_event seat (call.Holding at after) = none
look_event seat (call.Raising from to after) = none
look_event seat (call.Reopening slot) = none

-- the machine takes the one event and then the other
pub record TakesBoth (first second : GroupEvent) (old new : SlotState) : Type 0 where
  pub mid : SlotState
  pub before : GroupStep old first true mid
  pub after : GroupStep mid second true new

-- the machine takes the event, or where there is none it stays as it was
abbrev pub Shows : Event → SlotState → SlotState → Type 0
Shows Nothing old new = new ≡ old
Shows (One event) old new = GroupStep old event true new
Shows (Two first second) old new = TakesBoth first second old new

-- from a sound table to a sound one, by this event of the machine
pub record Leads (key : Start) (words words' : Words) (views views' : List View) (log : Log) (event : Event) : Type 0 where
  pub after : Log
  pub sound : IsSound key words' views' after
  pub shows : Shows event (slots_of key words views log) (slots_of key words' views' after)

-- Whatever sound table it is in which the word holds `found` and the seat has `view`: once the word holds `left` and the
-- seat has `view'`, the table is sound, and the step is the event
pub record IsStep (key : Start) (seat : ℕ) (word : Word) (found left : ℕ) (view view' : View) (event : Event) : Type 0 where
  pub leads : (words : Words) (views : List View) (log : Log) → IsSound key words views log → get_elem? views seat ≡ some view
      → word_at words word ≡ found
      → Leads key words (with_word words word left) views (set views seat view') log event
