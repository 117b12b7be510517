-- When a seat may join the group at its slot, and what is left once it has joined, or has not.
use Rattle.std.specs.Prelude.{◌≡◌, ◌≢◌, ◌⊎◌, ℕ, ◌+◌, ◌/◌, ◌<◌, ◌≤◌, false, Result, IfOk, IfErr}
use Rattle.slot_word.specs.declared.phase.Phase.TheVariants.{Gathering}
use Rattle.slot_word.specs.declared.slot_word.SlotWord.{SlotWord}
use Rattle.slot_word.specs.SlotWord.{word_of}
use Rattle.log_table.specs.declared.table.LogTable.{LogTable}
use Rattle.log_table.specs.declared.table.Seat.{Seat}
use Rattle.log_rule.specs.declared.view.Call.TheVariants.{Idle}
use Rattle.log_table.specs.Seats.{Becomes, view_of}
use Rattle.log_rule.specs.SlotViews.{own_slot_of, saw_slot, joined_slot, lost_join}
use Rattle.ring_buffer.specs.Calls.{IsSameWorker, SeesNoStop}
use Rattle.consol_array.specs.declared.call.Joined.{Joined}
use Rattle.consol_array.specs.declared.call.NotJoined.{NotJoined}

-- the group at a slot of this state takes n units more: it gathers, and its total is a quarter of the ring at most with them
pub record HasSlotRoom (ring n : ℕ) (state : SlotWord) : Type 0 where
  pub gathers : state.phase ≡ Gathering
  pub room : state.total + n ≤ ring / 4

-- it does not
abbrev pub LacksSlotRoom : ℕ → ℕ → SlotWord → Type 0
LacksSlotRoom ring n state = (state.phase ≢ Gathering) ⊎ (ring / 4 < state.total + n)

-- the group takes them, and this is the slot's state with them
pub record IsStateJoined (ring n : ℕ) (from to : SlotWord) : Type 0 where
  pub room : HasSlotRoom ring n from
  pub phase : to.phase ≡ from.phase
  pub total : to.total ≡ from.total + n
  pub remaining : to.remaining ≡ from.remaining

-- the seat loaded a state of its slot by which the group there takes n units more, and joined it for these by an exchange
pub record HasJoined (table : LogTable) (old new : Seat) (n : ℕ) (joined : Joined) : Type 0 where
  pub slot_is : joined.slot ≡ own_slot_of (view_of old)
  pub slot_below : joined.slot < table.slots
  pub size_is : joined.n ≡ n
  pub loaded : SlotWord
  pub room : HasSlotRoom table.ring n loaded
  pub offset_is : joined.offset ≡ loaded.total
  pub becomes : Becomes old new
      (joined_slot joined.slot joined.offset (word_of loaded) (saw_slot joined.slot (word_of loaded) (view_of old)))

-- the seat loaded a state of its slot by which the group there takes no more, and made no exchange
pub record WasTurnedAway (table : LogTable) (old new : Seat) (n : ℕ) (answer : NotJoined) : Type 0 where
  pub full : LacksSlotRoom table.ring n answer.loaded
  pub same : answer.found ≡ answer.loaded
  pub becomes : Becomes old new (saw_slot (own_slot_of (view_of old)) (word_of answer.loaded) (view_of old))

-- the seat loaded a state of its slot by which the group there takes them, but its exchange found another
pub record HasLostJoin (table : LogTable) (old new : Seat) (n : ℕ) (answer : NotJoined) : Type 0 where
  pub room : HasSlotRoom table.ring n answer.loaded
  pub other : answer.found ≢ answer.loaded
  pub becomes : Becomes old new (lost_join (own_slot_of (view_of old)) (word_of answer.found)
      (saw_slot (own_slot_of (view_of old)) (word_of answer.loaded) (view_of old)))

-- the seat has not joined
abbrev pub HasNotJoined : LogTable → Seat → Seat → ℕ → NotJoined → Type 0
HasNotJoined table old new n answer = WasTurnedAway table old new n answer ⊎ HasLostJoin table old new n answer

-- the seat has nothing under way, and the entries and the books of before
pub record IsBackAtRest (old new : Seat) : Type 0 where
  pub same : IsSameWorker old new
  pub idle : (view_of new).call ≡ Idle
  pub entries : (view_of new).entries ≡ (view_of old).entries
  pub books : (view_of new).books ≡ (view_of old).books

-- The seat tried to join the group at its slot, and has joined it or is back at rest. It isn't contended, and saw nothing of the stop word.
pub record TriesJoin (table : LogTable) (old new : Seat) (n : ℕ) (result : Result Joined NotJoined) : Type 0 where
  pub joined : IfOk result (HasJoined table old new n)
  pub not_joined : IfErr result (HasNotJoined table old new n)
  pub back : IfErr result (λ answer. IsBackAtRest old new)
  pub alone : (view_of new).contended ≡ false
  pub stop : SeesNoStop old new
