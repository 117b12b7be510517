-- When a value names the call that a member of a group has under way.
use Rattle.std.specs.Prelude.{◌≡◌, ℕ, ◌+◌, ◌<◌, List, [], length}
use Rattle.log_record.specs.Spelling.{spelling}
use Rattle.log_rule.specs.declared.group_view.MemberStep.{MemberStep}
use Rattle.log_rule.specs.declared.group_view.MemberStep.TheVariants.{Fills, Leaves}
use Rattle.log_rule.specs.declared.group_view.Piece.{Piece}
use Rattle.log_table.specs.declared.table.LogTable.{LogTable}
use Rattle.log_rule.specs.declared.view.Call.TheVariants.{Joined}
use Rattle.log_rule.specs.declared.view.View.{View}
use Rattle.consol_array.specs.declared.call.FilledMember.{FilledMember}
use Rattle.consol_array.specs.declared.call.Leaver.{Leaver}
use Rattle.consol_array.specs.declared.call.Member.{Member}

-- the seat is a member of the group at the slot, with this piece and at this step
abbrev pub IsAtStep : ℕ → Piece → MemberStep → View → Type 0
IsAtStep slot piece step view = view.call ≡ Joined slot piece step

-- the seat is a member of the group at the slot, for n units behind `offset` units of others, and is at this step
pub record IsMember (table : LogTable) (slot offset n : ℕ) (step : MemberStep) (view : View) : Type 0 where
  pub slot_below : slot < table.slots
  pub piece : Piece
  pub call : IsAtStep slot piece step view
  pub offset_is : piece.offset ≡ offset
  pub size_is : piece.size ≡ n

-- the seat has heard where its piece lies, for a record of these units, and has filled none of it
pub record HasPiece (table : LogTable) (member : Member) (units : List ℕ) (view : View) : Type 0 where
  pub slot_below : member.slot < table.slots
  pub piece : Piece
  pub base : ℕ
  pub call : IsAtStep member.slot piece (Fills base []) view
  pub at_is : member.at ≡ base + piece.offset
  pub offset_is : member.offset ≡ piece.offset
  pub size_is : member.n ≡ piece.size
  pub whole : piece.size ≡ length (spelling piece.rec)
  pub units_are : units ≡ spelling piece.rec

-- it is the same piece
pub record IsSamePiece (member : Member) (filled : FilledMember) : Type 0 where
  pub slot_is : filled.slot ≡ member.slot
  pub offset_is : filled.offset ≡ member.offset
  pub at_is : filled.at ≡ member.at
  pub size_is : filled.n ≡ member.n

-- the seat has filled its piece
pub record HasFilledPiece (table : LogTable) (filled : FilledMember) (view : View) : Type 0 where
  pub slot_below : filled.slot < table.slots
  pub piece : Piece
  pub base : ℕ
  pub units : List ℕ
  pub call : IsAtStep filled.slot piece (Fills base units) view
  pub full : length units ≡ piece.size
  pub at_is : filled.at ≡ base + piece.offset
  pub offset_is : filled.offset ≡ piece.offset
  pub size_is : filled.n ≡ piece.size

-- the seat has heard that its group was refused
pub record MayLeaveGroup (table : LogTable) (leaver : Leaver) (view : View) : Type 0 where
  pub slot_below : leaver.slot < table.slots
  pub piece : Piece
  pub tail : ℕ
  pub durable : ℕ
  pub call : IsAtStep leaver.slot piece (Leaves tail durable) view
  pub size_is : leaver.n ≡ piece.size
