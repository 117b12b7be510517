-- What a member has done once it has released its piece.
use Rattle.std.specs.Prelude.{◌≡◌, ◌↔◌, ℕ, ◌/◌, Bool, true, false}
use Rattle.slot_word.specs.declared.slot_word.SlotWord.{SlotWord}
use Rattle.slot_word.specs.SlotWord.{word_of}
use Rattle.log_table.specs.declared.table.LogTable.{LogTable}
use Rattle.log_table.specs.declared.table.Seat.{Seat}
use Rattle.log_rule.specs.declared.view.Seen.{Seen}
use Rattle.log_rule.specs.MarkViews.{marked}
use Rattle.log_table.specs.Seats.{Becomes, view_of}
use Rattle.log_rule.specs.SlotViews.{released_piece, reopened, HasToRelease}
use Rattle.ring_buffer.specs.Calls.{HasOnlySeen, HasExposed}

-- the seat released its piece of n units by a subtraction from this state, and is the last of its group to do so exactly where no more
-- remained
pub record LetsGo (table : LogTable) (n : ℕ) (old mid : Seat) (last : Bool) : Type 0 where
  pub found : SlotWord
  pub told : HasToRelease (table.ring / 4) n (view_of old).call (word_of found)
  pub becomes : Becomes old mid (released_piece (word_of found) (view_of old))
  pub last_is : (last ≡ true) ↔ (found.remaining ≡ n)

-- the seat marked the range of its group, exposed until no released range began where it saw exposed, and opened the slot again
pub record HasEmptied (old new : Seat) : Type 0 where
  pub marked_seat : Seat
  pub marks : Becomes old marked_seat (marked (view_of old))
  pub exposed_seat : Seat
  pub stays : HasOnlySeen marked_seat exposed_seat
  pub at : ℕ
  pub over : HasExposed at (view_of marked_seat) (view_of exposed_seat)
  pub reopens : Becomes exposed_seat new (reopened (view_of exposed_seat))

-- a member of a group with a range released its piece, and the last one did then what was left to do
pub record HasReleased (table : LogTable) (n : ℕ) (old new : Seat) (last : Bool) : Type 0 where
  pub mid : Seat
  pub lets_go : LetsGo table n old mid last
  pub emptied : last ≡ true → HasEmptied mid new
  pub rest : last ≡ false → new ≡ mid

-- a member of a group that was refused released its piece, and the last one opened the slot again
pub record HasLeft (table : LogTable) (n : ℕ) (old new : Seat) (last : Bool) : Type 0 where
  pub mid : Seat
  pub lets_go : LetsGo table n old mid last
  pub opened : last ≡ true → Becomes mid new (reopened (view_of mid))
  pub rest : last ≡ false → new ≡ mid

-- of all that a refusal is judged by nothing more was seen
pub record SeesTheSame (old new : Seen) : Type 0 where
  pub tail : new.tail ≡ old.tail
  pub tail_step : new.tail_step ≡ old.tail_step
  pub durable : new.durable ≡ old.durable
  pub durable_step : new.durable_step ≡ old.durable_step
  pub lsns : new.lsns ≡ old.lsns
  pub refusals : new.refusals ≡ old.refusals
