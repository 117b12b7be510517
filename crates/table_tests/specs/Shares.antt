-- A seat that has joined a group, and what it may do behind it.
use Rattle.std.specs.Prelude.{◌≡◌, ℕ, ◌<◌, ◌≤◌, false, List, [], length}
use Rattle.std.specs.List.{AllByRecursion}
use Rattle.log_record.specs.Spelling.{spelling}
use Rattle.log_rule.specs.declared.group_view.MemberStep.{MemberStep}
use Rattle.log_rule.specs.declared.group_view.Piece.{Piece}
use Rattle.log_table.specs.declared.table.LogTable.{LogTable}
use Rattle.log_table.specs.declared.table.Seat.{Seat}
use Rattle.log_rule.specs.declared.view.Half.TheVariants.{Neither}
use Rattle.log_rule.specs.declared.view.Role.TheVariants.{Active}
use Rattle.log_rule.specs.declared.view.TakenJob.{TakenJob}
use Rattle.log_rule.specs.declared.view.View.{View}
use Rattle.log_table.specs.Seats.{view_of}
use Rattle.ring_buffer.specs.Calls.{IsSameWorker}
use Rattle.consol_array.specs.declared.call.Joined.{Joined}
use Rattle.consol_array.specs.Members.{IsAtStep}

-- a piece for a record of these units, of a group at a slot of the table; `first` is the seat as it joined the group
pub record IsShare (table : LogTable) (joined : Joined) (units : List ℕ) (piece : Piece) (first : Seat) : Type 0 where
  pub slot_below : joined.slot < table.slots
  pub offset_is : piece.offset ≡ joined.offset
  pub size_is : joined.n ≡ piece.size
  pub whole : piece.size ≡ length (spelling piece.rec)
  pub units_are : units ≡ spelling piece.rec
  pub tail_seen : (view_of first).seen.tail ≤ piece.tail
  pub durable_seen : (view_of first).seen.durable ≤ piece.durable

-- the seat is a member of the group, at this step, with a piece for a record of these units
pub record HasShare (table : LogTable) (joined : Joined) (units : List ℕ) (step : MemberStep) (seat : Seat) : Type 0 where
  pub piece : Piece
  pub first : Seat
  pub share : IsShare table joined units piece first
  pub open share use *
  pub call : IsAtStep joined.slot piece step (view_of seat)
  pub same : IsSameWorker first seat

-- once nothing is under way, the worker may take a job of this number and place for it alone
pub record GoesOn (number : ℕ) (view : View) : Type 0 where
  pub active : view.standing.role ≡ Active
  pub alone : view.contended ≡ false
  pub none_held : view.books.held ≡ []
  pub whole : view.books.half ≡ Neither
  pub above : AllByRecursion (λ (taken : TakenJob). taken.number < number) view.books.jobs
