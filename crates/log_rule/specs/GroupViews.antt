-- What a seat has of the group that it has joined, by its step there, and what it does after it has exposed.
use Rattle.std.specs.Prelude.{ℕ, ◌+◌, List, [], ◌∷◌, ◌++◌, length, Option, Some, None}
use Rattle.slot_parts.specs.declared.task.MemberStage.{MemberStage}
use Rattle.slot_parts.specs.declared.task.MemberStage.TheVariants as stage
use Rattle.log_rule.specs.declared.group_view.After.{After}
use Rattle.log_rule.specs.declared.group_view.After.TheVariants.{Nothing, Reopens}
use Rattle.log_rule.specs.declared.group_view.MemberStep.{MemberStep}
use Rattle.log_rule.specs.declared.group_view.MemberStep.TheVariants.{Closes, Waits, Hears, Places, Stores, Tells, Fills, Leaves}
use Rattle.log_rule.specs.declared.view.Call.{Call}
use Rattle.log_rule.specs.declared.view.Call.TheVariants.{Idle, Filling, Joined, Emptying, Marked, Holding, Raising, Reopening}
use Rattle.log_rule.specs.declared.view.Books.{Books}
use Rattle.log_rule.specs.declared.view.Entry.{Entry}
use Rattle.log_rule.specs.Books.{placing}
use Rattle.log_rule.specs.Groups.{Outcome, Granted, Refused, GroupPhase, Vacant, Gathering, Closed, Placed, Ready, Told, Emptied, Piece}

-- the piece in the group's range, which begins there, with these units filled
abbrev pub placed_piece : ℕ → List ℕ → Piece → Entry
placed_piece base units piece = record { start = base + piece.offset; size = piece.size; units = units; rec = piece.rec }

-- the piece's entry by what became of the group, with no unit filled
abbrev pub granted_entry : Outcome → Piece → List Entry
granted_entry (Granted base) piece = placed_piece base [] piece ∷ []
granted_entry (Refused tail durable) piece = []

-- the entry of a member that has not heard, by the phase of its group
abbrev pub unheard_entry : GroupPhase → Piece → List Entry
unheard_entry Vacant piece = []
unheard_entry (Gathering leader total) piece = []
unheard_entry (Closed leader total) piece = []
unheard_entry (Placed leader total outcome) piece = granted_entry outcome piece
unheard_entry (Ready leader total outcome) piece = granted_entry outcome piece
unheard_entry (Told total outcome remaining) piece = granted_entry outcome piece
unheard_entry (Emptied last) piece = []

-- the entry of a member at this step
abbrev pub member_entry : GroupPhase → Piece → MemberStep → List Entry
member_entry phase piece Closes = unheard_entry phase piece
member_entry phase piece Waits = unheard_entry phase piece
member_entry phase piece (Hears refused total) = unheard_entry phase piece
member_entry phase piece (Places total closed) = unheard_entry phase piece
member_entry phase piece (Stores total base) = unheard_entry phase piece
member_entry phase piece (Tells total outcome) = unheard_entry phase piece
member_entry phase piece (Fills base units) = placed_piece base units piece ∷ []
member_entry phase piece (Leaves tail durable) = []

-- the books with the piece's record placed, by what became of the group
abbrev pub granted_books : Outcome → Piece → Books → Books
granted_books (Granted base) piece books = placing (base + piece.offset + piece.size) piece.rec books
granted_books (Refused tail durable) piece books = books

-- the books of a member that has not heard: its group may have placed its record
abbrev pub unheard_books : GroupPhase → Piece → Books → Books
unheard_books Vacant piece books = books
unheard_books (Gathering leader total) piece books = books
unheard_books (Closed leader total) piece books = books
unheard_books (Placed leader total outcome) piece books = granted_books outcome piece books
unheard_books (Ready leader total outcome) piece books = granted_books outcome piece books
unheard_books (Told total outcome remaining) piece books = granted_books outcome piece books
unheard_books (Emptied last) piece books = books

-- the books of a member at this step; one that has heard has its record in its own books, if it was placed
abbrev pub member_books : GroupPhase → Piece → MemberStep → Books → Books
member_books phase piece Closes books = unheard_books phase piece books
member_books phase piece Waits books = unheard_books phase piece books
member_books phase piece (Hears refused total) books = unheard_books phase piece books
member_books phase piece (Places total closed) books = unheard_books phase piece books
member_books phase piece (Stores total base) books = unheard_books phase piece books
member_books phase piece (Tells total outcome) books = unheard_books phase piece books
member_books phase piece (Fills base units) books = books
member_books phase piece (Leaves tail durable) books = books

-- the step with one more unit of the piece filled
abbrev pub step_with_unit : ℕ → MemberStep → MemberStep
step_with_unit unit Closes = Closes
step_with_unit unit Waits = Waits
step_with_unit unit (Hears refused total) = Hears refused total
step_with_unit unit (Places total closed) = Places total closed
step_with_unit unit (Stores total base) = Stores total base
step_with_unit unit (Tells total outcome) = Tells total outcome
step_with_unit unit (Fills base units) = Fills base (units ++ unit ∷ [])
step_with_unit unit (Leaves tail durable) = Leaves tail durable

-- the step as the machine says it: a member that saw its group told still waits to hear
abbrev pub stage_of : MemberStep → MemberStage
stage_of Closes = stage.Closes
stage_of Waits = stage.Waits
stage_of (Hears refused total) = stage.Waits
stage_of (Places total closed) = stage.Places
stage_of (Stores total base) = stage.Stores
stage_of (Tells total outcome) = stage.Tells
stage_of (Fills base units) = stage.Fills (length units)
stage_of (Leaves tail durable) = stage.Leaves

-- the slot that is opened again afterwards, if there is one
abbrev pub slot_after : After → Option ℕ
slot_after Nothing = None
slot_after (Reopens slot) = Some slot

-- the call once nothing more is to be exposed
abbrev pub call_after : After → Call
call_after Nothing = Idle
call_after (Reopens slot) = Reopening slot

-- what follows once the range of the call is marked and exposed: where it is a group's, the slot is opened again
abbrev pub follow_up : Call → After
follow_up Idle = Nothing
follow_up (Filling entry) = Nothing
follow_up (Joined slot piece step) = Nothing
follow_up (Emptying slot base total) = Reopens slot
follow_up (Marked after) = after
follow_up (Holding at after) = after
follow_up (Raising from to after) = after
follow_up (Reopening slot) = Reopens slot
