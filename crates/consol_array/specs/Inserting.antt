-- What the rounds of an insert come to, and what an insert that was refused tells.
use Rattle.std.specs.Prelude.{◌≡◌, ℕ, ◌<◌, false, Contains, Result, OnErr, IfErr}
use Rattle.lsn_space.specs.declared.lsn.TheConstants.{LAST}
use Rattle.log_rule.specs.declared.group_view.Piece.{Piece}
use Rattle.log_table.specs.declared.table.LogTable.{LogTable}
use Rattle.log_table.specs.declared.table.Seat.{Seat}
use Rattle.log_rule.specs.Books.{next_of}
use Rattle.log_table.specs.Seats.{view_of}
use Rattle.log_rule.specs.SlotViews.{step_joining}
use Rattle.ring_buffer.specs.Calls.{KeepsEntries, IsRefusedNow, IsSameWorker, PlacesNext, Refuses, SeesNoStop}
use Rattle.ring_buffer.specs.Totals.{IsTotalOfSeat}
use Rattle.ring_buffer.specs.declared.refused.Refused.{Refused}
use Rattle.consol_array.specs.declared.call.Joined.{Joined}
use Rattle.consol_array.specs.declared.inserting.Way.{Way}
use Rattle.consol_array.specs.declared.inserting.Way.TheVariants.{Alone, InGroup}
use Rattle.consol_array.specs.Members.{IsAtStep}

-- the seat has joined the group at a slot for the next record of its last job, of n units; the piece has tail and durable as the seat saw
-- them last
pub record JoinsNext (table : LogTable) (old new : Seat) (n : ℕ) (joined : Joined) : Type 0 where
  pub slot_below : joined.slot < table.slots
  pub size_is : joined.n ≡ n
  pub piece : Piece
  pub call : IsAtStep joined.slot piece (step_joining joined.offset) (view_of new)
  pub offset_is : piece.offset ≡ joined.offset
  pub rec_is : piece.rec ≡ next_of (view_of old).books
  pub whole : piece.size ≡ n
  pub tail_seen : piece.tail ≡ (view_of new).seen.tail
  pub durable_seen : piece.durable ≡ (view_of new).seen.durable
  pub same : IsSameWorker old new
  pub entries : (view_of new).entries ≡ (view_of old).entries
  pub books : (view_of new).books ≡ (view_of old).books
  pub stop : SeesNoStop old new
  pub alone : (view_of new).contended ≡ false

-- a range is reserved for the seat's next record alone, or the seat has joined a group for it
abbrev pub HasComeTo : LogTable → Seat → Seat → ℕ → Way → Type 0
HasComeTo table old new n (Alone range) = PlacesNext (view_of old) (view_of new) n range × IsSameWorker old new
HasComeTo table old new n (InGroup joined) = JoinsNext table old new n joined

-- Where the result is a refusal, the seat is as before but for what it saw, and was refused by what it looked at last, in this call. It saw
-- nothing of the stop word.
pub record TellsRefusal {T : Type 0} (old new : Seat) (ring n : ℕ) (result : Result T Refused) : Type 0 where
  pub kept : OnErr result (KeepsEntries old new)
  pub refused : IfErr result (IsRefusedNow old new ring n)
  pub stop : SeesNoStop old new

-- another worker was faster, and the seat has joined no group; it is as before but for what it saw
pub record HasLostRound (old new : Seat) : Type 0 where
  pub kept : KeepsEntries old new
  pub below : (view_of old).seen.tail < LAST
  pub greater : (view_of old).seen.tail < (view_of new).seen.tail

-- The seat was refused by the tail and the durable that it saw last, in this call, by a look or as it heard of its group's, and for its own
-- record's units or its group's total. The tail is an LSN that the seat saw.
pub record WasRefused (old new : Seat) (ring n : ℕ) (refused : Refused) : Type 0 where
  pub total : ℕ
  pub asked : IsTotalOfSeat (view_of new) n total
  pub refuses : Refuses ring (view_of new).seen.tail (view_of new).seen.durable total refused
  pub now : (view_of old).seen.steps < (view_of new).seen.tail_step
  pub durable_now : (view_of old).seen.steps < (view_of new).seen.durable_step
  pub told : Contains (view_of new).seen.lsns (view_of new).seen.tail
