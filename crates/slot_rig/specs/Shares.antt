-- Where a seat stands in the group at its slot.
use Rattle.std.specs.Prelude.{◌≡◌, ℕ, ◌+◌, ◌^◌, ◌<◌, [], ◌∷◌, length}
use Rattle.log_record.specs.Spelling.{spelling}
use Rattle.log_rule.specs.declared.group_view.MemberStep.{MemberStep}
use Rattle.log_rule.specs.declared.group_view.MemberStep.TheVariants.{Closes, Fills, Places, Waits}
use Rattle.log_rule.specs.declared.group_view.Piece.{Piece}
use Rattle.log_table.specs.declared.table.LogTable.{LogTable}
use Rattle.log_table.specs.declared.table.Seat.{Seat}
use Rattle.log_rule.specs.declared.view.Call.{Call}
use Rattle.log_rule.specs.declared.view.Call.TheVariants.{Emptying, Idle, Joined}
use Rattle.log_rule.specs.declared.view.Half.TheVariants.{Neither}
use Rattle.log_rule.specs.declared.view.Role.TheVariants.{Active, Flusher}
use Rattle.log_rule.specs.GroupViews.{placed_piece}
use Rattle.log_table.specs.HiredWorkers.{HasHired}
use Rattle.log_table.specs.Seats.{IsOf, view_of}
use Rattle.test_rig.specs.NotedJobs.{MayInsert}
use Rattle.slot_rig.specs.declared.share.Share.{Share}

-- the seat is this table's, of the worker of this number, which is at work and holds no account
pub record IsWorker (table : LogTable) (number : ℕ) (seat : Seat) : Type 0 where
  pub own : IsOf table seat
  pub active : (view_of seat).standing.role ≡ Active
  pub numbered : (view_of seat).standing.worker ≡ number
  pub none_held : (view_of seat).books.held ≡ []
  pub whole : (view_of seat).books.half ≡ Neither

-- that worker has nothing under way
pub record IsDone (table : LogTable) (number : ℕ) (seat : Seat) : Type 0 where
  pub worker : IsWorker table number seat
  pub idle : (view_of seat).call ≡ Idle

-- the seat is this table's, of the worker of this number, which may take a job of that number and join the group at its slot for its
-- note
pub record IsJoiner (table : LogTable) (worker number : ℕ) (seat : Seat) : Type 0 where
  pub inserts : MayInsert table number seat
  pub numbered : (view_of seat).standing.worker ≡ worker
  pub no_entry : (view_of seat).entries ≡ []

-- the piece is the share's
pub record IsPiece (share : Share) (piece : Piece) : Type 0 where
  pub offset_is : piece.offset ≡ share.offset
  pub size_is : piece.size ≡ length share.units
  pub spelled : share.units ≡ spelling piece.rec

-- the seat's call is that of a member of the group at the share's slot, with that share, at this step; it has no entry so far
pub record IsMember (table : LogTable) (share : Share) (step : MemberStep) (seat : Seat) : Type 0 where
  pub worker : IsWorker table share.worker seat
  pub slot : share.slot < table.slots
  pub piece : Piece
  pub own_piece : IsPiece share piece
  pub call : (view_of seat).call ≡ Joined share.slot piece step
  pub no_entry : (view_of seat).entries ≡ []

-- it leads the group, and may close it
abbrev pub Leads : LogTable → Share → Seat → Type 0
Leads table share = IsMember table share Closes

-- it waits to hear what became of the group
abbrev pub Awaits : LogTable → Share → Seat → Type 0
Awaits table share = IsMember table share Waits

-- it has filled its piece of a range that begins there
abbrev pub HasFilled : LogTable → Share → ℕ → Seat → Type 0
HasFilled table share base = IsMember table share (Fills base share.units)

-- the seat has just closed the group that it leads, which has this total
pub record IsPlacing (table : LogTable) (share : Share) (total : ℕ) (seat : Seat) : Type 0 where
  pub closed : ℕ
  pub member : IsMember table share (Places total closed) seat
  pub just_now : closed ≡ (view_of seat).seen.steps
  pub few : total < 2 ^ 31

-- the piece of the share, filled, in a range that begins there, is the seat's only entry; the seat's call is this one
pub record HasReleased (table : LogTable) (share : Share) (base : ℕ) (call : Call) (seat : Seat) : Type 0 where
  pub worker : IsWorker table share.worker seat
  pub slot : share.slot < table.slots
  pub piece : Piece
  pub own_piece : IsPiece share piece
  pub call_is : (view_of seat).call ≡ call
  pub entry : (view_of seat).entries ≡ placed_piece base share.units piece ∷ []

-- it was the last of the group, which has this total, and marks and exposes the range next
abbrev pub Empties : LogTable → Share → ℕ → ℕ → Seat → Type 0
Empties table share base total = HasReleased table share base (Emptying share.slot base total)

-- the seat has no entry, and its call is this one
pub record HasLeft (table : LogTable) (share : Share) (call : Call) (seat : Seat) : Type 0 where
  pub worker : IsWorker table share.worker seat
  pub slot : share.slot < table.slots
  pub call_is : (view_of seat).call ≡ call
  pub no_entry : (view_of seat).entries ≡ []

-- the seat's entries are those of the pieces of both shares in a range that begins there, one behind the other
pub record HasBoth (ours theirs : Share) (base : ℕ) (seat : Seat) : Type 0 where
  pub first : Piece
  pub own_first : IsPiece ours first
  pub second : Piece
  pub own_second : IsPiece theirs second
  pub entries : (view_of seat).entries ≡ placed_piece base ours.units first ∷ placed_piece base theirs.units second ∷ []

-- two workers joined the group at the only slot: the seat of one leads it, and that of the other waits
pub record ArePair (table : LogTable) (hired : ℕ) (boss_seat one_seat two_seat : Seat) (ours theirs : Share) : Type 0 where
  pub flusher_seat : HasHired table (hired + 2) boss_seat
  pub one : Leads table ours one_seat
  pub two : Awaits table theirs two_seat
  pub workers : (ours.worker ≡ hired) × (theirs.worker ≡ hired + 1)
  pub offsets : (ours.offset ≡ 0) × (theirs.offset ≡ 2)

-- the flusher's seat hired two workers, and has taken in none
pub record HasHiredBoth (table : LogTable) (seat : Seat) : Type 0 where
  pub own : IsOf table seat
  pub flusher : (view_of seat).standing.role ≡ Flusher
  pub made : (view_of seat).standing.made ≡ 1 ∷ 0 ∷ []
  pub merged : (view_of seat).standing.merged ≡ []
