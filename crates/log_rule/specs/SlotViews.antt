-- How the steps on slots change the view of their seat.
use Rattle.std.specs.Prelude.{◌≡◌, ◌==◌, ℕ, ◌+◌, ◌/◌, ◌%◌, ◌^◌, ◌≤◌, ◌&&◌, if◌then◌else◌, nat_eq, nat_le, nat_lt, Bool, true, false, [], ◌∷◌, length, List, ◌++◌}
use Rattle.lsn_space.specs.declared.lsn.TheConstants.{LAST}
use Rattle.slot_word.specs.declared.phase.Phase.TheVariants as kind
use Rattle.slot_word.specs.SlotWord.{phase_in, total_in, remaining_in, IsSlotWord}
use Rattle.log_record.specs.Spelling.{spelling}
use Rattle.log_rule.specs.Books.{next_of, placing}
use Rattle.log_rule.specs.declared.group_view.MemberStep.{MemberStep}
use Rattle.log_rule.specs.declared.group_view.MemberStep.TheVariants.{Closes, Waits, Hears, Places, Stores, Tells, Fills, Leaves}
use Rattle.log_rule.specs.declared.group_view.Piece.{Piece}
use Rattle.log_rule.specs.declared.view.Call.{Call}
use Rattle.log_rule.specs.declared.view.Call.TheVariants.{Idle, Filling, Joined, Emptying, Marked, Holding, Raising, Reopening}
use Rattle.log_rule.specs.declared.view.Entry.{Entry}
use Rattle.log_rule.specs.declared.view.Seen.{Seen}
use Rattle.log_rule.specs.declared.view.View.{View}
use Rattle.log_rule.specs.Groups.{Granted, Refused}
use Rattle.log_rule.specs.Members.{LacksRoom}
use Rattle.log_rule.specs.Views.{counted, seen_tail, reserved, contended_alone}
use Rattle.log_rule.specs.GroupViews.{placed_piece}

-- the slot's state was seen
abbrev pub seen_slot : ℕ → ℕ → Seen → Seen
seen_slot slot word seen = record seen { steps = seen.steps + 1; slot = slot; slot_word = word }

-- where the word is that of a group which is told, its phase is refused
abbrev pub tells_refusal : ℕ → Bool
tells_refusal word = nat_eq (word / 2 ^ 62) 3

-- the step of a member that finds this word: it sees whether the group is told for which it waits
abbrev pub step_seeing : ℕ → MemberStep → MemberStep
step_seeing word Closes = Closes
step_seeing word Waits = if nat_lt word (2 ^ 63) then Waits else Hears (tells_refusal word) (total_in word)
step_seeing word (Hears refused total) = Hears refused total
step_seeing word (Places total closed) = Places total closed
step_seeing word (Stores total base) = Stores total base
step_seeing word (Tells total outcome) = Tells total outcome
step_seeing word (Fills base units) = Fills base units
step_seeing word (Leaves tail durable) = Leaves tail durable

-- the call after a load of the slot's state
abbrev pub call_seeing : ℕ → ℕ → Call → Call
call_seeing slot word Idle = Idle
call_seeing slot word (Filling entry) = Filling entry
call_seeing slot word (Joined other piece step) = Joined other piece (if other == slot then step_seeing word step else step)
call_seeing slot word (Emptying other base total) = Emptying other base total
call_seeing slot word (Marked after) = Marked after
call_seeing slot word (Holding at after) = Holding at after
call_seeing slot word (Raising from to after) = Raising from to after
call_seeing slot word (Reopening other) = Reopening other

-- the slot at which the seat joins
abbrev pub own_slot_of : View → ℕ
own_slot_of view = view.standing.worker % view.constants.slots

-- whether the seat could join by this state: the group gathers, and has room for the seat's next record
abbrev pub is_joinable : ℕ → View → Bool
is_joinable word view = nat_eq (word / 2 ^ 62) 0 && nat_le (total_in word + length (spelling (next_of view.books))) (view.constants.ring / 4)

-- whether a seat is contended that saw this state of the slot: no more so where the slot is its own and it couldn't join there
abbrev pub contended_seeing : ℕ → ℕ → View → Bool
contended_seeing slot word view = view.contended && (if slot == own_slot_of view then is_joinable word view else true)

-- after a load of the slot's state
abbrev pub saw_slot : ℕ → ℕ → View → View
saw_slot slot word view = record view {
  seen = seen_slot slot word view.seen;
  call = call_seeing slot word view.call;
  contended = contended_seeing slot word view;
}

-- The group of this state is told: it has a total of at most so many units, in which the piece lies, and the piece is part of what remains.
pub record IsToldWord (most : ℕ) (piece : Piece) (word : ℕ) : Type 0 where
  pub within : piece.offset + piece.size ≤ total_in word
  pub remains : piece.size ≤ remaining_in word
  pub whole : remaining_in word ≤ total_in word
  pub few : total_in word ≤ most

-- what the slot's state tells a member there that waits and finds its group told
abbrev pub TellsWaiting : ℕ → ℕ → View → Type 0
TellsWaiting slot word view =
    (piece : Piece) → view.call ≡ Joined slot piece Waits → 2 ^ 63 ≤ word → IsToldWord (view.constants.ring / 4) piece word

-- the piece of a seat that joins for the next record of its last job, where others have these units
abbrev pub piece_joining : ℕ → View → Piece
piece_joining offset view = record {
  offset = offset;
  size = length (spelling (next_of view.books));
  rec = next_of view.books;
  tail = view.seen.tail;
  durable = view.seen.durable;
}

-- who joins first leads, all others wait
abbrev pub step_joining : ℕ → MemberStep
step_joining offset = if offset == 0 then Closes else Waits

-- after an exchange of the slot's state by which the seat joined the group there, which had this total; it is contended no more
abbrev pub joined_slot : ℕ → ℕ → ℕ → View → View
joined_slot slot total word view =
    record view { seen = seen_slot slot word view.seen; call = Joined slot (piece_joining total view) (step_joining total); contended = false }

-- after an exchange of the slot's state that was lost, and found this word; the seat is contended no more
abbrev pub lost_join : ℕ → ℕ → View → View
lost_join slot word view =
    record view { seen = seen_slot slot word view.seen; call = call_seeing slot word view.call; contended = false }

-- after an exchange of the slot's state that found n
abbrev pub after_join : ℕ → ℕ → ℕ → ℕ → View → View
after_join slot total from n view = if n == from then joined_slot slot total from view else lost_join slot n view

-- the slot at which the call is a member's, 0 where it is none's
abbrev pub slot_in : Call → ℕ
slot_in Idle = 0
slot_in (Filling entry) = 0
slot_in (Joined slot piece step) = slot
slot_in (Emptying slot base total) = slot
slot_in (Marked after) = 0
slot_in (Holding at after) = 0
slot_in (Raising from to after) = 0
slot_in (Reopening slot) = slot

-- the call, where it is a member's with its step changed so
abbrev pub map_step : (MemberStep → MemberStep) → Call → Call
map_step change Idle = Idle
map_step change (Filling entry) = Filling entry
map_step change (Joined slot piece step) = Joined slot piece (change step)
map_step change (Emptying slot base total) = Emptying slot base total
map_step change (Marked after) = Marked after
map_step change (Holding at after) = Holding at after
map_step change (Raising from to after) = Raising from to after
map_step change (Reopening slot) = Reopening slot

-- the step of a leader that closes its group of this total at that one of its steps
abbrev pub step_closed : ℕ → ℕ → MemberStep → MemberStep
step_closed total closed Closes = Places total closed
step_closed total closed Waits = Waits
step_closed total closed (Hears refused told) = Hears refused told
step_closed total closed (Places old at) = Places old at
step_closed total closed (Stores old base) = Stores old base
step_closed total closed (Tells old outcome) = Tells old outcome
step_closed total closed (Fills base units) = Fills base units
step_closed total closed (Leaves tail durable) = Leaves tail durable

abbrev pub call_closed : ℕ → ℕ → Call → Call
call_closed total closed call = map_step (step_closed total closed) call

-- after a swap of the slot's state that closed the group there, and found this word
abbrev pub closed_slot : ℕ → View → View
closed_slot word view = record view {
  seen = seen_slot (slot_in view.call) word view.seen;
  call = call_closed (total_in word) (view.seen.steps + 1) view.call;
}

-- the word is that of a group that gathers, and has a total of at most so many units
pub record IsGatheringWord (most word : ℕ) : Type 0 where
  pub slot_word : IsSlotWord word
  pub gathers : phase_in word ≡ kind.Gathering
  pub some_units : 1 ≤ total_in word
  pub few : total_in word ≤ most

-- the step of a leader that has reserved the range of its group, which begins there
abbrev pub step_reserved : ℕ → MemberStep → MemberStep
step_reserved base Closes = Closes
step_reserved base Waits = Waits
step_reserved base (Hears refused total) = Hears refused total
step_reserved base (Places total closed) = Stores total base
step_reserved base (Stores total old) = Stores total old
step_reserved base (Tells total outcome) = Tells total outcome
step_reserved base (Fills old units) = Fills old units
step_reserved base (Leaves tail durable) = Leaves tail durable

abbrev pub call_reserved : ℕ → Call → Call
call_reserved base call = map_step (step_reserved base) call

-- after an exchange of the tail by which a leader reserved for its group; the new tail counts as seen
abbrev pub reserved_group : ℕ → ℕ → View → View
reserved_group from to view = record view { seen = seen_tail to view.seen; call = call_reserved from view.call }

-- after an exchange of the tail that succeeded: a leader's for its group, else one for the seat's next record
abbrev pub exchanged : ℕ → ℕ → View → Call → View
exchanged from to view Idle = reserved from to view
exchanged from to view (Filling entry) = reserved from to view
exchanged from to view (Joined slot piece step) = reserved_group from to view
exchanged from to view (Emptying slot base total) = reserved from to view
exchanged from to view (Marked after) = reserved from to view
exchanged from to view (Holding at after) = reserved from to view
exchanged from to view (Raising old end after) = reserved from to view
exchanged from to view (Reopening slot) = reserved from to view

-- whether a seat with this call is contended that lost an exchange of the tail: a leader stays as it was, all others made it alone
abbrev pub contended_losing : View → Call → Bool
contended_losing view Idle = contended_alone view
contended_losing view (Filling entry) = contended_alone view
contended_losing view (Joined slot piece step) = view.contended
contended_losing view (Emptying slot base total) = contended_alone view
contended_losing view (Marked after) = contended_alone view
contended_losing view (Holding at after) = contended_alone view
contended_losing view (Raising from to after) = contended_alone view
contended_losing view (Reopening slot) = contended_alone view

-- after an exchange of the tail that was lost, and found n
abbrev pub lost_exchange : ℕ → View → View
lost_exchange n view = record view { seen = seen_tail n view.seen; contended = contended_losing view view.call }

-- after an exchange of the tail that found n
abbrev pub after_exchange : ℕ → ℕ → ℕ → View → View
after_exchange from to n view = if n == from then exchanged from to view view.call else lost_exchange n view

-- the step of a leader that has stored the base of its group; one that has only closed the group refuses it by this tail and this durable
abbrev pub step_stored : ℕ → ℕ → MemberStep → MemberStep
step_stored tail durable Closes = Closes
step_stored tail durable Waits = Waits
step_stored tail durable (Hears refused total) = Hears refused total
step_stored tail durable (Places total closed) = Tells total (Refused tail durable)
step_stored tail durable (Stores total base) = Tells total (Granted base)
step_stored tail durable (Tells total outcome) = Tells total outcome
step_stored tail durable (Fills base units) = Fills base units
step_stored tail durable (Leaves old seen) = Leaves old seen

abbrev pub call_stored : ℕ → ℕ → Call → Call
call_stored tail durable call = map_step (step_stored tail durable) call

-- after a store of the slot's base
abbrev pub stored_base : View → View
stored_base view = record view { seen = counted view.seen; call = call_stored view.seen.tail view.seen.durable view.call }

-- the step of a leader that has told its group
abbrev pub step_published : MemberStep → MemberStep
step_published Closes = Closes
step_published Waits = Waits
step_published (Hears refused total) = Hears refused total
step_published (Places total closed) = Places total closed
step_published (Stores total base) = Stores total base
step_published (Tells total outcome) = Waits
step_published (Fills base units) = Fills base units
step_published (Leaves tail durable) = Leaves tail durable

abbrev pub call_published : Call → Call
call_published call = map_step step_published call

-- after a store of the slot's state that told the group
abbrev pub published : View → View
published view = record view { seen = counted view.seen; call = call_published view.call }

-- what the last to release has to do: it marks the group's range, or opens the slot again where the group was refused
abbrev pub call_emptying : ℕ → ℕ → MemberStep → Call
call_emptying slot total Closes = Idle
call_emptying slot total Waits = Idle
call_emptying slot total (Hears refused known) = Idle
call_emptying slot total (Places known closed) = Idle
call_emptying slot total (Stores known base) = Idle
call_emptying slot total (Tells known outcome) = Idle
call_emptying slot total (Fills base units) = Emptying slot base total
call_emptying slot total (Leaves tail durable) = Reopening slot

-- the call after a release that found this word: the last of the members finds that no more remained than its piece
abbrev pub call_released : ℕ → Call → Call
call_released word Idle = Idle
call_released word (Filling entry) = Filling entry
call_released word (Joined slot piece step) = if remaining_in word == piece.size then call_emptying slot (total_in word) step else Idle
call_released word (Emptying slot base total) = Emptying slot base total
call_released word (Marked after) = Marked after
call_released word (Holding at after) = Holding at after
call_released word (Raising from to after) = Raising from to after
call_released word (Reopening slot) = Reopening slot

-- the piece of a member that has heard where it lies in the log
abbrev pub piece_heard : Piece → MemberStep → List Entry
piece_heard piece Closes = []
piece_heard piece Waits = []
piece_heard piece (Hears refused total) = []
piece_heard piece (Places total closed) = []
piece_heard piece (Stores total base) = []
piece_heard piece (Tells total outcome) = []
piece_heard piece (Fills base units) = placed_piece base units piece ∷ []
piece_heard piece (Leaves tail durable) = []

abbrev pub piece_in : Call → List Entry
piece_in Idle = []
piece_in (Filling entry) = []
piece_in (Joined slot piece step) = piece_heard piece step
piece_in (Emptying slot base total) = []
piece_in (Marked after) = []
piece_in (Holding at after) = []
piece_in (Raising from to after) = []
piece_in (Reopening slot) = []

-- After a subtraction from the slot's state by which the member released its piece, and which found this word. A piece that lies in the
-- log is one of the seat's entries then.
abbrev pub released_piece : ℕ → View → View
released_piece word view = record view {
  seen = seen_slot (slot_in view.call) word view.seen;
  entries = view.entries ++ piece_in view.call;
  call = call_released word view.call;
}

-- the word is that of a group which is told as a member at this step has heard; the range that it heard of lies in the log
abbrev pub IsAsHeard : MemberStep → ℕ → Type 0
IsAsHeard Closes word = Unit {0}
IsAsHeard Waits word = Unit {0}
IsAsHeard (Hears refused total) word = Unit {0}
IsAsHeard (Places total closed) word = Unit {0}
IsAsHeard (Stores total base) word = Unit {0}
IsAsHeard (Tells total outcome) word = Unit {0}
IsAsHeard (Fills base units) word = (phase_in word ≡ kind.Published) × (base + total_in word ≤ LAST)
IsAsHeard (Leaves tail durable) word = phase_in word ≡ kind.Refused

abbrev pub IsAsHeardIn : Call → ℕ → Type 0
IsAsHeardIn Idle word = Unit {0}
IsAsHeardIn (Filling entry) word = Unit {0}
IsAsHeardIn (Joined slot piece step) word = IsAsHeard step word
IsAsHeardIn (Emptying slot base total) word = Unit {0}
IsAsHeardIn (Marked after) word = Unit {0}
IsAsHeardIn (Holding at after) word = Unit {0}
IsAsHeardIn (Raising from to after) word = Unit {0}
IsAsHeardIn (Reopening slot) word = Unit {0}

-- what a release of n units finds: the group is told as the member has heard, these units remain, and the total is at most so many
pub record HasToRelease (most n : ℕ) (call : Call) (word : ℕ) : Type 0 where
  pub slot_word : IsSlotWord word
  pub heard : IsAsHeardIn call word
  pub remain : n ≤ remaining_in word
  pub within : remaining_in word ≤ total_in word
  pub few : total_in word ≤ most

-- after a store of the slot's state that opened the slot again
abbrev pub reopened : View → View
reopened view = record view { seen = counted view.seen; call = Idle }

-- it was heard where the range of the group of this total begins: the base counts as seen, and the tail behind the range
abbrev pub seen_granted : ℕ → ℕ → Seen → Seen
seen_granted base total seen =
    record seen {
      steps = seen.steps + 1;
      tail = base + total;
      tail_step = seen.steps + 1;
      base = base;
      lsns = (base + total) ∷ base ∷ seen.lsns;
    }

-- it was heard, for a piece of this size, by which tail and which durable the group of this total was refused: both count as seen
abbrev pub seen_refused : ℕ → ℕ → ℕ → Seen → Seen
seen_refused word size total seen = record seen {
  steps = seen.steps + 1;
  tail = word / 2 ^ 32;
  tail_step = seen.steps + 1;
  durable = word % 2 ^ 32;
  durable_step = seen.steps + 1;
  base = word;
  lsns = (word / 2 ^ 32) ∷ (word % 2 ^ 32) ∷ seen.lsns;
  refusals = record { size = size; total = total } ∷ seen.refusals;
}

-- after a load of the slot's base by a member of a group that has its range; the member's record has its place
abbrev pub heard_granted : ℕ → ℕ → Piece → ℕ → View → View
heard_granted slot base piece total view = record view {
  seen = seen_granted base total view.seen;
  call = Joined slot piece (Fills base []);
  books = placing (base + piece.offset + piece.size) piece.rec view.books;
}

-- after a load of the slot's base by a member of a group that was refused
abbrev pub heard_refused : ℕ → ℕ → Piece → ℕ → View → View
heard_refused slot word piece total view =
    record view { seen = seen_refused word piece.size total view.seen; call = Joined slot piece (Leaves (word / 2 ^ 32) (word % 2 ^ 32)) }

-- after a load of the slot's base by a member at this step; one that has not seen its group told learns nothing
abbrev pub heard_at : ℕ → ℕ → Piece → MemberStep → View → View
heard_at slot word piece Closes view = view
heard_at slot word piece Waits view = view
heard_at slot word piece (Hears refused total) view =
    if refused then heard_refused slot word piece total view else heard_granted slot word piece total view
heard_at slot word piece (Places total closed) view = view
heard_at slot word piece (Stores total base) view = view
heard_at slot word piece (Tells total outcome) view = view
heard_at slot word piece (Fills base units) view = view
heard_at slot word piece (Leaves tail durable) view = view

abbrev pub heard_by : ℕ → Call → View → View
heard_by word Idle view = view
heard_by word (Filling entry) view = view
heard_by word (Joined slot piece step) view = heard_at slot word piece step view
heard_by word (Emptying slot base total) view = view
heard_by word (Marked after) view = view
heard_by word (Holding at after) view = view
heard_by word (Raising from to after) view = view
heard_by word (Reopening slot) view = view

-- after a load of the slot's base
abbrev pub heard_base : ℕ → View → View
heard_base word view = heard_by word view.call view

-- The group's range begins there: it is in the log and holds the piece, and is not below the tail as the member had seen it when it joined.
-- The group has a total of at most so many units.
pub record IsHeardBase (most total : ℕ) (piece : Piece) (base : ℕ) : Type 0 where
  pub within : piece.offset + piece.size ≤ total
  pub few : total ≤ most
  pub in_log : base + total ≤ LAST
  pub tail_seen : piece.tail ≤ base

-- The word has the tail and the durable by which the group was refused, whose total the piece is a part of: they are not below those that
-- the member had seen when it joined, and by them the group has no room.
pub record IsHeardRefusal (ring total : ℕ) (piece : Piece) (word : ℕ) : Type 0 where
  pub within : piece.offset + piece.size ≤ total
  pub few : total ≤ ring / 4
  pub tail_seen : piece.tail ≤ word / 2 ^ 32
  pub durable_seen : piece.durable ≤ word % 2 ^ 32
  pub no_room : LacksRoom ring total (word / 2 ^ 32) (word % 2 ^ 32)

-- what the slot's base tells a member that saw its group told
pub record TellsMember (word : ℕ) (view : View) : Type 0 where
  pub base : (slot : ℕ) (piece : Piece) (total : ℕ) → view.call ≡ Joined slot piece (Hears false total)
      → IsHeardBase (view.constants.ring / 4) total piece word
  pub refusal : (slot : ℕ) (piece : Piece) (total : ℕ) → view.call ≡ Joined slot piece (Hears true total)
      → IsHeardRefusal view.constants.ring total piece word
