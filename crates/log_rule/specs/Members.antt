-- What the members of a group had seen as they joined it, what they have to place, and how great the group's total can be.
use Rattle.std.specs.Prelude.{◌≡◌, ◌⊎◌, ℕ, ◌+◌, ◌*◌, ◌≤◌, ◌<◌, true, false, List, length}
use Rattle.std.specs.List.{AllByRecursion, list_any}
use lib.Dec.{eqb}
use Rattle.log_record.specs.Spelling.{spelling}
use Rattle.lsn_space.specs.declared.lsn.TheConstants.{LAST}
use Rattle.log_rule.specs.declared.group_view.HeardRefusal.{HeardRefusal}
use Rattle.log_rule.specs.declared.group_view.MemberStep.{MemberStep}
use Rattle.log_rule.specs.declared.group_view.MemberStep.TheVariants.{Closes, Waits, Hears, Places, Stores, Tells, Fills, Leaves}
use Rattle.log_rule.specs.declared.group_view.Piece.{Piece}
use Rattle.log_rule.specs.declared.view.Books.{Books}
use Rattle.log_rule.specs.declared.view.Call.{Call}
use Rattle.log_rule.specs.declared.view.Call.TheVariants.{Idle, Filling, Joined, Emptying, Marked, Holding, Raising, Reopening}
use Rattle.log_rule.specs.declared.view.Role.TheVariants.{Flusher}
use Rattle.log_rule.specs.declared.view.Seen.{Seen}
use Rattle.log_rule.specs.declared.view.View.{View}
use Rattle.log_rule.specs.Books.{next_of, MayEnter}
use Rattle.log_rule.specs.Groups.{Outcome, Granted, Refused, GroupPhase, Vacant, Gathering, Closed, Placed, Ready, Told, Emptied, Member, Group}
use Rattle.log_rule.specs.Log.{LogRange, IsRangeBoundary}
use Rattle.log_rule.specs.Roles.{is_spent}

-- ---- what members had seen

-- tail and durable, as the member had seen them when it joined, are not above these
pub record HadSeenUpTo (tail durable : ℕ) (member : Member) : Type 0 where
  pub tail_seen : member.piece.tail ≤ tail
  pub durable_seen : member.piece.durable ≤ durable

-- so by what became of the group: the tail is not above its base, or neither is above that by which it was refused
abbrev pub HadSeenUnder : Outcome → Member → Type 0
HadSeenUnder (Granted base) member = member.piece.tail ≤ base
HadSeenUnder (Refused tail durable) member = HadSeenUpTo tail durable member

-- the tail and the durable by which a group was refused are boundaries of reservations, and not above the words
pub record WasSeen (start tail durable : ℕ) (ranges : List LogRange) (seen_tail seen_durable : ℕ) : Type 0 where
  pub tail_boundary : IsRangeBoundary start ranges seen_tail
  pub durable_boundary : IsRangeBoundary start ranges seen_durable
  pub tail_reached : seen_tail ≤ tail
  pub durable_reached : seen_durable ≤ durable

abbrev pub IsTrueOutcome : ℕ → ℕ → ℕ → List LogRange → Outcome → Type 0
IsTrueOutcome start tail durable ranges (Granted base) = Unit {0}
IsTrueOutcome start tail durable ranges (Refused seen_tail seen_durable) = WasSeen start tail durable ranges seen_tail seen_durable

-- a group of this total has no room by this tail and this durable: it would end behind the log, or more than a ring above durable
abbrev pub LacksRoom : ℕ → ℕ → ℕ → ℕ → Type 0
LacksRoom ring total tail durable = (LAST < tail + total) ⊎ (durable + ring < tail + total)

-- a group that was refused has no room by its refusal's tail and durable
abbrev pub LacksRoomIfRefused : ℕ → ℕ → Outcome → Type 0
LacksRoomIfRefused ring total (Granted base) = Unit {0}
LacksRoomIfRefused ring total (Refused tail durable) = LacksRoom ring total tail durable

-- what became of the group of this total is so, and goes with what its members had seen
pub record HasOutcome (start ring tail durable : ℕ) (ranges : List LogRange) (members : List Member) (total : ℕ) (outcome : Outcome) : Type 0 where
  pub members_seen : AllByRecursion (HadSeenUnder outcome) members
  pub is_true : IsTrueOutcome start tail durable ranges outcome
  pub no_room : LacksRoomIfRefused ring total outcome

-- so, by the phase of the group
abbrev pub HasPhaseOutcome : ℕ → ℕ → ℕ → ℕ → List LogRange → List Member → GroupPhase → Type 0
HasPhaseOutcome start ring tail durable ranges members Vacant = Unit {0}
HasPhaseOutcome start ring tail durable ranges members (Gathering leader total) = Unit {0}
HasPhaseOutcome start ring tail durable ranges members (Closed leader total) = Unit {0}
HasPhaseOutcome start ring tail durable ranges members (Placed leader total outcome) = HasOutcome start ring tail durable ranges members total outcome
HasPhaseOutcome start ring tail durable ranges members (Ready leader total outcome) = HasOutcome start ring tail durable ranges members total outcome
HasPhaseOutcome start ring tail durable ranges members (Told total outcome remaining) = HasOutcome start ring tail durable ranges members total outcome
HasPhaseOutcome start ring tail durable ranges members (Emptied last) = Unit {0}

-- what the members of a group had seen is not above the words, nor above what became of the group
pub record HasSeenInGroup (start ring tail durable : ℕ) (ranges : List LogRange) (group : Group) : Type 0 where
  pub members_seen : AllByRecursion (HadSeenUpTo tail durable) group.members
  pub outcome : HasPhaseOutcome start ring tail durable ranges group.members group.phase

-- what a leader has loaded since that one of its steps is not below what the members had seen
pub record LoadedSince (closed : ℕ) (seen : Seen) (members : List Member) : Type 0 where
  pub tail_loaded : closed < seen.tail_step → AllByRecursion (λ (member : Member). member.piece.tail ≤ seen.tail) members
  pub durable_loaded : closed < seen.durable_step → AllByRecursion (λ (member : Member). member.piece.durable ≤ seen.durable) members

abbrev pub LoadsAtStep : MemberStep → Seen → List Member → Type 0
LoadsAtStep Closes seen members = Unit {0}
LoadsAtStep Waits seen members = Unit {0}
LoadsAtStep (Hears refused total) seen members = Unit {0}
LoadsAtStep (Places total closed) seen members = LoadedSince closed seen members
LoadsAtStep (Stores total base) seen members = Unit {0}
LoadsAtStep (Tells total outcome) seen members = Unit {0}
LoadsAtStep (Fills base units) seen members = Unit {0}
LoadsAtStep (Leaves tail durable) seen members = Unit {0}

-- so of a seat whose call is a leader's that has closed its group
abbrev pub LoadsForGroup : (ℕ → Group) → Seen → Call → Type 0
LoadsForGroup groups seen Idle = Unit {0}
LoadsForGroup groups seen (Filling entry) = Unit {0}
LoadsForGroup groups seen (Joined slot piece step) = LoadsAtStep step seen (groups slot).members
LoadsForGroup groups seen (Emptying slot base total) = Unit {0}
LoadsForGroup groups seen (Marked after) = Unit {0}
LoadsForGroup groups seen (Holding at after) = Unit {0}
LoadsForGroup groups seen (Raising from to after) = Unit {0}
LoadsForGroup groups seen (Reopening slot) = Unit {0}

-- Tail and durable, as the seat saw them last, are among the LSNs that it saw, and it saw neither of them at a step that it has not made.
-- So nothing counts as loaded since a step that the seat makes now.
pub record SawLast (seen : Seen) : Type 0 where
  pub tail_among : list_any (eqb seen.tail) seen.lsns ≡ true
  pub durable_among : list_any (eqb seen.durable) seen.lsns ≡ true
  pub tail_made : seen.tail_step ≤ seen.steps
  pub durable_made : seen.durable_step ≤ seen.steps

abbrev pub HasSeenLast : View → Type 0
HasSeenLast view = is_spent view.standing.role ≡ false → SawLast view.seen

-- ---- what a member has to place

-- the piece is for the next record of the seat's last job, which may be placed
pub record IsForNextRecord (piece : Piece) (books : Books) : Type 0 where
  pub rec_is : piece.rec ≡ next_of books
  pub size_is : piece.size ≡ length (spelling piece.rec)
  pub enters : MayEnter piece.rec books

-- so until the member has heard
abbrev pub AwaitsAtStep : MemberStep → Piece → Books → Type 0
AwaitsAtStep Closes piece books = IsForNextRecord piece books
AwaitsAtStep Waits piece books = IsForNextRecord piece books
AwaitsAtStep (Hears refused total) piece books = IsForNextRecord piece books
AwaitsAtStep (Places total closed) piece books = IsForNextRecord piece books
AwaitsAtStep (Stores total base) piece books = IsForNextRecord piece books
AwaitsAtStep (Tells total outcome) piece books = IsForNextRecord piece books
AwaitsAtStep (Fills base units) piece books = Unit {0}
AwaitsAtStep (Leaves tail durable) piece books = Unit {0}

-- who has joined a group and not heard may place the record of its piece
abbrev pub AwaitsPlace : Call → Books → Type 0
AwaitsPlace Idle books = Unit {0}
AwaitsPlace (Filling entry) books = Unit {0}
AwaitsPlace (Joined slot piece step) books = AwaitsAtStep step piece books
AwaitsPlace (Emptying slot base total) books = Unit {0}
AwaitsPlace (Marked after) books = Unit {0}
AwaitsPlace (Holding at after) books = Unit {0}
AwaitsPlace (Raising from to after) books = Unit {0}
AwaitsPlace (Reopening slot) books = Unit {0}

-- ---- a group's total

-- a group's total, beside a member's size, where so many workers were made: each of the others has a record of 26 units at most
abbrev pub IsTotalOf : ℕ → ℕ → ℕ → Type 0
IsTotalOf workers size total = total + 26 ≤ size + 26 * workers

-- so for each of the members
abbrev pub IsTotalOfEach : ℕ → ℕ → List Member → Type 0
IsTotalOfEach workers total members = AllByRecursion (λ (member : Member). IsTotalOf workers member.piece.size total) members

abbrev pub HasTotalAtPhase : ℕ → List Member → GroupPhase → Type 0
HasTotalAtPhase workers members Vacant = Unit {0}
HasTotalAtPhase workers members (Gathering leader total) = Unit {0}
HasTotalAtPhase workers members (Closed leader total) = IsTotalOfEach workers total members
HasTotalAtPhase workers members (Placed leader total outcome) = IsTotalOfEach workers total members
HasTotalAtPhase workers members (Ready leader total outcome) = IsTotalOfEach workers total members
HasTotalAtPhase workers members (Told total outcome remaining) = IsTotalOfEach workers total members
HasTotalAtPhase workers members (Emptied last) = Unit {0}

-- the group has no greater total than the workers can bring which the flusher's seat knows as made
abbrev pub HasTotalOfWorkers : Group → View → Type 0
HasTotalOfWorkers group view = view.standing.role ≡ Flusher → HasTotalAtPhase (length view.standing.made) group.members group.phase

-- so had each group of whose refusal a seat heard, and it asked for the seat's record too: where one worker was made, for no more
pub record IsRefusalOf (workers : ℕ) (refusal : HeardRefusal) : Type 0 where
  pub within : refusal.size ≤ refusal.total
  pub most : IsTotalOf workers refusal.size refusal.total

abbrev pub HeardOfWorkers : View → View → Type 0
HeardOfWorkers view other = view.standing.role ≡ Flusher → AllByRecursion (IsRefusalOf (length view.standing.made)) other.seen.refusals
