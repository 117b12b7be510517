-- What a seat must be ready for, and what a call leaves it with.
use Rattle.std.specs.Prelude.{◌≡◌, ℕ, ◌+◌, ◌<◌, ◌≤◌, false, List, length, Contains}
use Rattle.lsn_space.specs.declared.lsn.TheConstants.{LAST}
use Rattle.log_table.specs.declared.table.Seat.{Seat}
use Rattle.log_record.specs.declared.rec.Rec.{Rec}
use Rattle.log_record.specs.Spelling.{spelling}
use Rattle.log_rule.specs.declared.view.Books.{Books}
use Rattle.log_rule.specs.declared.group_view.MemberStep.{MemberStep}
use Rattle.log_rule.specs.declared.group_view.MemberStep.TheVariants.{Closes, Waits, Hears, Places, Stores, Tells, Fills, Leaves}
use Rattle.log_rule.specs.declared.view.Call.{Call}
use Rattle.log_rule.specs.declared.view.Call.TheVariants.{Idle, Filling, Joined, Emptying, Marked, Holding, Raising, Reopening}
use Rattle.log_rule.specs.declared.view.Entry.{Entry}
use Rattle.log_rule.specs.declared.view.Seen.{Seen}
use Rattle.log_rule.specs.declared.view.View.{View}
use Rattle.log_rule.specs.Books.{next_of, placing, MayEnter}
use Rattle.log_rule.specs.GroupViews.{call_after, follow_up}
use Rattle.log_rule.specs.Log.{IsFull}
use Rattle.log_rule.specs.May.{IsAtRest, HasLooked}
use Rattle.log_table.specs.Seats.{Becomes, view_of}
use Rattle.log_rule.specs.Views.{empty_entry, saw_tail, saw_durable, reserved, lost_alone}
use Rattle.ring_buffer.specs.declared.call.Look.{Look}
use Rattle.ring_buffer.specs.declared.call.Range.{Range}
use Rattle.ring_buffer.specs.declared.refused.Refused.{Refused}
use Rattle.ring_buffer.specs.declared.refused.Refused.TheVariants.{RingFull, LogEnd}

-- the worker is enrolled, has nothing under way, and may place alone
pub record IsReady (view : View) : Type 0 where
  pub rests : IsAtRest view
  pub alone : view.contended ≡ false

-- the look is what the seat's last two steps saw: the tail, by a load or by an exchange that was lost, and then durable, by a load
pub record IsLastLook (look : Look) (view : View) : Type 0 where
  pub looked : HasLooked view.seen
  pub tail : view.seen.tail ≡ look.tail
  pub durable : view.seen.durable ≡ look.durable

-- n units fit behind the tail, in the log and in the ring
pub record HasRoom (ring tail durable n : ℕ) : Type 0 where
  pub in_log : tail + n ≤ LAST
  pub in_ring : tail + n ≤ durable + ring

-- they do not, for the reason that is told; the log's end is told where both hold
abbrev pub Refuses : ℕ → ℕ → ℕ → ℕ → Refused → Type 0
Refuses ring tail durable n (LogEnd told total) = (told ≡ tail) × (total ≡ n) × (LAST < tail + n)
Refuses ring tail durable n (RingFull told stood total) =
    (told ≡ tail) × (stood ≡ durable) × (total ≡ n) × (tail + n ≤ LAST) × (durable + ring < tail + n)

-- after loads of the tail and then of durable
abbrev pub looked : ℕ → ℕ → View → View
looked tail durable view = saw_durable durable (saw_tail tail view)

-- the seat looked, and reserved n units where it saw the tail and room behind it
pub record HasPlaced (old new : Seat) (ring n : ℕ) (range : Range) : Type 0 where
  pub size : range.size ≡ n
  pub durable : ℕ
  pub room : HasRoom ring range.start durable n
  pub grows : (view_of old).seen.tail ≤ range.start
  pub becomes : Becomes old new (reserved range.start (range.start + n) (looked range.start durable (view_of old)))

-- the seat looked and saw room, but another had reserved before it did; in a table with slots it is contended then
pub record HasLost (old new : Seat) (ring n : ℕ) : Type 0 where
  pub tail : ℕ
  pub durable : ℕ
  pub room : HasRoom ring tail durable n
  pub found : ℕ
  pub greater : tail < found
  pub becomes : Becomes old new (lost_alone found (looked tail durable (view_of old)))

-- the seat looked, and by what it saw there is no room
pub record HasRefused (old new : Seat) (ring n : ℕ) (refused : Refused) : Type 0 where
  pub tail : ℕ
  pub durable : ℕ
  pub refuses : Refuses ring tail durable n refused
  pub becomes : Becomes old new (looked tail durable (view_of old))

-- n is the number of units of the next record of the seat's last job, and that record may be placed
pub record MayPlace (n : ℕ) (books : Books) : Type 0 where
  pub size : n ≡ length (spelling (next_of books))
  pub enters : MayEnter (next_of books) books

-- the seat reserved the range for a record of these units, and has filled none of it
pub record HasReserved (range : Range) (units : List ℕ) (view : View) : Type 0 where
  pub rec : Rec
  pub call : view.call ≡ Filling (empty_entry range.start range.size rec)
  pub size : range.size ≡ length (spelling rec)
  pub units_are : units ≡ spelling rec

-- The range is reserved for the next record of the seat's last job, behind what the seat had seen, and none of it is filled. No account
-- went back: the books are those of before with this record placed. The seat is as contended as before.
pub record PlacesNext (old new : View) (n : ℕ) (range : Range) : Type 0 where
  pub size : range.size ≡ n
  pub behind : old.seen.tail ≤ range.start
  pub seen : range.start + n ≤ new.seen.tail
  pub call : new.call ≡ Filling (empty_entry range.start n (next_of old.books))
  pub entries : new.entries ≡ old.entries
  pub books : new.books ≡ placing (range.start + n) (next_of old.books) old.books
  pub contended : new.contended ≡ old.contended

-- the entry of the record whole
abbrev pub entry_of : ℕ → Rec → Entry
entry_of start rec = record { start = start; size = length (spelling rec); units = spelling rec; rec = rec }

-- the step of a member with these units of its piece filled
abbrev pub step_filled_with : List ℕ → MemberStep → MemberStep
step_filled_with units Closes = Closes
step_filled_with units Waits = Waits
step_filled_with units (Hears refused total) = Hears refused total
step_filled_with units (Places total closed) = Places total closed
step_filled_with units (Stores total base) = Stores total base
step_filled_with units (Tells total outcome) = Tells total outcome
step_filled_with units (Fills base old) = Fills base units
step_filled_with units (Leaves tail durable) = Leaves tail durable

-- the call with these units filled
abbrev pub filled_with : List ℕ → Call → Call
filled_with units Idle = Idle
filled_with units (Filling entry) = Filling (record { start = entry.start; size = entry.size; units = units; rec = entry.rec })
filled_with units (Joined slot piece step) = Joined slot piece (step_filled_with units step)
filled_with units (Emptying slot base total) = Emptying slot base total
filled_with units (Marked after) = Marked after
filled_with units (Holding at after) = Holding at after
filled_with units (Raising from to after) = Raising from to after
filled_with units (Reopening slot) = Reopening slot

-- the range is filled with these units, step by step
abbrev pub with_units : List ℕ → ℕ → View → View
with_units units steps view = record view { seen = record view.seen { steps = steps }; call = filled_with units view.call }

-- the seat has filled the range whole
pub record HasFilled (range : Range) (view : View) : Type 0 where
  pub entry : Entry
  pub call : view.call ≡ Filling entry
  pub start : entry.start ≡ range.start
  pub size : entry.size ≡ range.size
  pub full : IsFull entry

-- the seat has marked a range, and not looked at exposed since
abbrev pub HasMarked : View → Type 0
HasMarked view = view.call ≡ Marked (follow_up view.call)

-- the seat's last step saw exposed at this LSN, and it has that in hand
pub record HasInHand (lsn : ℕ) (view : View) : Type 0 where
  pub call : view.call ≡ Holding lsn (follow_up view.call)
  pub exposed : view.seen.exposed ≡ lsn
  pub step : view.seen.exposed_step ≡ view.seen.steps

-- Exposed was at this LSN as the seat saw it last, in its last step but one. Its last step looked for a mark there and found none above it:
-- no released range began there.
pub record IsLastExposed (lsn : ℕ) (seen : Seen) : Type 0 where
  pub exposed : seen.exposed ≡ lsn
  pub just_before : seen.exposed_step + 1 ≡ seen.steps
  pub looked : seen.mark_at ≡ lsn
  pub unready : seen.mark ≤ lsn

-- it is the same worker's seat, and it has seen no less
pub record IsSameWorker (old new : Seat) : Type 0 where
  pub table_is : new.base.table_id ≡ old.base.table_id
  pub number : new.base.id ≡ old.base.id
  pub slots : new.base.me.1 ≡ old.base.me.1
  pub worker : new.worker ≡ old.worker
  pub constants : (view_of new).constants ≡ (view_of old).constants
  pub standing : (view_of new).standing ≡ (view_of old).standing
  pub grows : (view_of old).seen.tail ≤ (view_of new).seen.tail
  pub exposed : (view_of old).seen.exposed ≤ (view_of new).seen.exposed
  pub durable : (view_of old).seen.durable ≤ (view_of new).seen.durable
  pub steps : (view_of old).seen.steps ≤ (view_of new).seen.steps

-- the seat saw nothing of the stop word
abbrev pub SeesNoStop : Seat → Seat → Type 0
SeesNoStop old new = (view_of new).seen.stop ≡ (view_of old).seen.stop

-- but for what it saw, and for its call, the seat is as it was
pub record HasOnlySeen (old new : Seat) : Type 0 where
  pub same : IsSameWorker old new
  pub entries : (view_of new).entries ≡ (view_of old).entries
  pub books : (view_of new).books ≡ (view_of old).books
  pub stop : SeesNoStop old new
  pub contended : (view_of new).contended ≡ (view_of old).contended

-- Since `old` the seat has exposed, and it has nothing left to expose. It has nothing under way, or where the range was a group's it
-- is about to open the slot again.
pub record HasExposed (lsn : ℕ) (old new : View) : Type 0 where
  pub call : new.call ≡ call_after (follow_up old.call)
  pub last : IsLastExposed lsn new.seen

-- The seat has nothing under way, these entries and these books, which tell the accounts that it gave back. It is as contended as before;
-- between the two moments it may have been contended.
pub record HasEntries (old new : Seat) (entries : List Entry) (books : Books) : Type 0 where
  pub same : IsSameWorker old new
  pub idle : (view_of new).call ≡ Idle
  pub contended : (view_of new).contended ≡ (view_of old).contended
  pub entries_are : (view_of new).entries ≡ entries
  pub books_are : (view_of new).books ≡ books

-- the same with the entries and the books of before
abbrev pub KeepsEntries : Seat → Seat → Type 0
KeepsEntries old new = HasEntries old new (view_of old).entries (view_of old).books

-- the refusal is by what the seat looked at last, in this call; the tail that it names is an LSN that the seat saw
pub record IsRefusedNow (old new : Seat) (ring n : ℕ) (refused : Refused) : Type 0 where
  pub refuses : Refuses ring (view_of new).seen.tail (view_of new).seen.durable n refused
  pub looked : HasLooked (view_of new).seen
  pub now : (view_of old).seen.steps < (view_of new).seen.tail_step
  pub told : Contains (view_of new).seen.lsns (view_of new).seen.tail
