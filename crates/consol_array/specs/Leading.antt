-- What a leader does for its group.
use Rattle.std.specs.Prelude.{◌≡◌, ℕ, ◌+◌, ◌/◌, ◌<◌, ◌≤◌}
use Rattle.lsn_space.specs.declared.lsn.TheConstants.{LAST}
use Rattle.slot_word.specs.declared.slot_word.SlotWord.{SlotWord}
use Rattle.slot_word.specs.SlotWord.{word_of}
use Rattle.log_rule.specs.declared.group_view.MemberStep.TheVariants.{Closes, Waits, Places, Tells}
use Rattle.log_rule.specs.declared.group_view.Piece.{Piece}
use Rattle.log_table.specs.declared.table.LogTable.{LogTable}
use Rattle.log_rule.specs.declared.view.Seen.{Seen}
use Rattle.log_rule.specs.declared.view.View.{View}
use Rattle.log_rule.specs.Groups.{Outcome, Granted, Refused}
use Rattle.log_rule.specs.Members.{LacksRoom}
use Rattle.log_rule.specs.Slots.{told_word}
use Rattle.ring_buffer.specs.Calls.{HasRoom}
use Rattle.consol_array.specs.Members.{IsAtStep}

-- the seat leads the group at the slot, and has closed it with this total; at which of its steps, its call keeps
pub record HasClosed (table : LogTable) (slot total : ℕ) (view : View) : Type 0 where
  pub slot_below : slot < table.slots
  pub few : total ≤ table.ring / 4
  pub some : 1 ≤ total
  pub piece : Piece
  pub closed : ℕ
  pub call : IsAtStep slot piece (Places total closed) view
  pub earlier : closed ≤ view.seen.steps

-- By what the leader saw last there was room for the group of this total, and the tail is behind the group's range; or there is none, and
-- these are the tail and the durable that it saw.
abbrev pub IsBySight : ℕ → ℕ → Outcome → Seen → Type 0
IsBySight ring total (Granted base) seen = HasRoom ring base seen.durable total × (seen.tail ≡ base + total)
IsBySight ring total (Refused tail durable) seen = (tail ≡ seen.tail) × (durable ≡ seen.durable) × LacksRoom ring total tail durable

-- the leader looked, and did by what it saw what is to be done for the group, which this state of the slot tells
pub record HasPlacedGroup (ring slot total : ℕ) (old new : View) (state : SlotWord) : Type 0 where
  pub outcome : Outcome
  pub by_sight : IsBySight ring total outcome new.seen
  pub now : old.seen.steps < new.seen.tail_step
  pub tells : (piece : Piece) (closed : ℕ) → IsAtStep slot piece (Places total closed) old
      → IsAtStep slot piece (Tells total outcome) new
  pub state_is : word_of state ≡ told_word outcome total total

-- the leader looked and saw room, but another worker had reserved before it did
pub record IsOvertaken (old new : View) : Type 0 where
  pub call : new.call ≡ old.call
  pub below : old.seen.tail < LAST
  pub greater : old.seen.tail < new.seen.tail

-- the leader has told its group, and waits as its other members do
abbrev pub HasTold : ℕ → View → View → Type 0
HasTold slot old new = (piece : Piece) → IsAtStep slot piece Closes old → IsAtStep slot piece Waits new

-- what became of the group was decided by what the leader saw last, in this call
pub record HasDecided (ring : ℕ) (old new : View) : Type 0 where
  pub total : ℕ
  pub few : total ≤ ring / 4
  pub outcome : Outcome
  pub by_sight : IsBySight ring total outcome new.seen
  pub now : old.seen.steps < new.seen.tail_step
