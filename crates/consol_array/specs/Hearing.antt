-- What a member sees while it waits, and what it hears.
use Rattle.std.specs.Prelude.{◌≡◌, ◌⊎◌, ℕ, ◌+◌, ◌/◌, ◌<◌, ◌≤◌, Bool, true, false, [], Contains}
use Rattle.slot_word.specs.declared.phase.Phase.{Phase}
use Rattle.slot_word.specs.declared.phase.Phase.TheVariants as phase
use Rattle.slot_word.specs.declared.slot_word.SlotWord.{SlotWord}
use Rattle.slot_word.specs.SlotWord.{word_of}
use Rattle.log_rule.specs.declared.group_view.MemberStep.{MemberStep}
use Rattle.log_rule.specs.declared.group_view.MemberStep.TheVariants.{Hears, Fills, Leaves}
use Rattle.log_rule.specs.declared.group_view.Piece.{Piece}
use Rattle.log_table.specs.declared.table.LogTable.{LogTable}
use Rattle.log_table.specs.declared.table.Seat.{Seat}
use Rattle.log_rule.specs.declared.view.View.{View}
use Rattle.log_rule.specs.Books.{placing}
use Rattle.log_table.specs.Seats.{Becomes, view_of}
use Rattle.log_rule.specs.SlotViews.{saw_slot}
use Rattle.ring_buffer.specs.Calls.{Refuses, IsSameWorker, SeesNoStop}
use Rattle.ring_buffer.specs.Totals.{IsHeard}
use Rattle.ring_buffer.specs.declared.refused.Refused.{Refused}
use Rattle.consol_array.specs.declared.call.Heard.{Heard}
use Rattle.consol_array.specs.declared.call.Heard.TheVariants as heard
use Rattle.consol_array.specs.declared.call.Joined.{Joined}
use Rattle.consol_array.specs.declared.call.Leaver.{Leaver}
use Rattle.consol_array.specs.declared.call.Member.{Member}
use Rattle.consol_array.specs.Members.{IsAtStep, IsMember}

-- a group that is told is refused
abbrev pub is_refused : Phase → Bool
is_refused phase.Gathering = false
is_refused phase.Pending = false
is_refused phase.Published = false
is_refused phase.Refused = true

-- the step of a member that has seen its group told by this state
abbrev pub step_told : SlotWord → MemberStep
step_told state = Hears (is_refused state.phase) state.total

-- by this state a group is told; and, below, by this one none is
abbrev pub TellsGroup : SlotWord → Type 0
TellsGroup state = (state.phase ≡ phase.Published) ⊎ (state.phase ≡ phase.Refused)

abbrev pub TellsNothing : SlotWord → Type 0
TellsNothing state = (state.phase ≡ phase.Gathering) ⊎ (state.phase ≡ phase.Pending)

-- the member loaded this state of the slot, by which its group is told
pub record HasSeenTold (slot : ℕ) (old new : Seat) (state : SlotWord) : Type 0 where
  pub told : TellsGroup state
  pub becomes : Becomes old new (saw_slot slot (word_of state) (view_of old))

-- the member loaded a state of the slot by which its group is not told
pub record HasSeenUntold (slot : ℕ) (old new : Seat) : Type 0 where
  pub state : SlotWord
  pub untold : TellsNothing state
  pub becomes : Becomes old new (saw_slot slot (word_of state) (view_of old))

-- the member has seen its group told by this state, and has not heard
pub record IsToHear (table : LogTable) (joined : Joined) (state : SlotWord) (view : View) : Type 0 where
  pub member : IsMember table joined.slot joined.offset joined.n (step_told state) view
  pub told : TellsGroup state

-- The seat is the same worker's, and has seen no less than any earlier state of it whose tail and durable, as seen, were not above those
-- of the piece.
abbrev pub HasSeenNoLess : Piece → Seat → Seat → Type 0
HasSeenNoLess piece old new = (first : Seat) → IsSameWorker first old → (view_of first).seen.tail ≤ piece.tail
    → (view_of first).seen.durable ≤ piece.durable → IsSameWorker first new

-- The member heard where the range of its group begins: its piece lies in it, and it isn't below the tail as the member had seen it when it
-- joined. The tail behind the whole range counts as seen, and the member's record has its place.
pub record HasHeardBase (joined : Joined) (piece : Piece) (old new : Seat) (member : Member) : Type 0 where
  pub slot_is : member.slot ≡ joined.slot
  pub offset_is : member.offset ≡ joined.offset
  pub size_is : member.n ≡ joined.n
  pub base : ℕ
  pub total : ℕ
  pub at_is : member.at ≡ base + piece.offset
  pub within : piece.offset + piece.size ≤ total
  pub behind : piece.tail ≤ base
  pub seen : (view_of new).seen.tail ≡ base + total
  pub same : HasSeenNoLess piece old new
  pub call : IsAtStep joined.slot piece (Fills base []) (view_of new)
  pub entries : (view_of new).entries ≡ (view_of old).entries
  pub books : (view_of new).books ≡ placing (base + piece.offset + piece.size) piece.rec (view_of old).books
  pub stop : SeesNoStop old new
  pub alone : (view_of old).contended ≡ false → (view_of new).contended ≡ false

-- The member heard that its group was refused, by which tail and which durable and for which total: there was no room by these. Neither is
-- below what the member had seen when it joined, and both count as seen. The view keeps the size and the total.
pub record HasHeardRefusal (ring : ℕ) (joined : Joined) (piece : Piece) (old new : Seat) (refused : Refused) (leaver : Leaver)
    : Type 0 where
  pub slot_is : leaver.slot ≡ joined.slot
  pub size_is : leaver.n ≡ joined.n
  pub total : ℕ
  pub within : piece.offset + piece.size ≤ total
  pub few : total ≤ ring / 4
  pub refuses : Refuses ring (view_of new).seen.tail (view_of new).seen.durable total refused
  pub now : (view_of old).seen.steps < (view_of new).seen.tail_step
  pub durable_now : (view_of old).seen.steps < (view_of new).seen.durable_step
  pub told : Contains (view_of new).seen.lsns (view_of new).seen.tail
  pub kept : IsHeard (view_of new).seen.refusals piece.size total
  pub same : HasSeenNoLess piece old new
  pub call : IsAtStep joined.slot piece (Leaves (view_of new).seen.tail (view_of new).seen.durable) (view_of new)
  pub entries : (view_of new).entries ≡ (view_of old).entries
  pub books : (view_of new).books ≡ (view_of old).books
  pub stop : SeesNoStop old new
  pub alone : (view_of old).contended ≡ false → (view_of new).contended ≡ false

-- what the member heard
abbrev pub HasHeard : ℕ → Joined → Piece → Seat → Seat → Heard → Type 0
HasHeard ring joined piece old new (heard.Base member) = HasHeardBase joined piece old new member
HasHeard ring joined piece old new (heard.Refused refused leaver) = HasHeardRefusal ring joined piece old new refused leaver
