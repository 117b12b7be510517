-- What the log, the words and the views have of the groups at the slots.
use Rattle.std.specs.Prelude.{◌≡◌, ℕ, ◌==◌, ◌+◌, ◌*◌, ◌^◌, ◌≤◌, ◌<◌, if◌then◌else◌, Bool, true, false, List, [], ◌∷◌}
use Rattle.std.specs.List.{AllByRecursion}
use Rattle.slot_word.specs.declared.phase.Phase.TheVariants as kind
use Rattle.slot_word.specs.SlotWord.{packed}
use Rattle.log_rule.specs.declared.group_view.After.{After}
use Rattle.log_rule.specs.declared.group_view.After.TheVariants.{Nothing, Reopens}
use Rattle.log_rule.specs.declared.group_view.MemberStep.{MemberStep}
use Rattle.log_rule.specs.declared.group_view.MemberStep.TheVariants.{Closes, Waits, Hears, Places, Stores, Tells, Fills, Leaves}
use Rattle.log_rule.specs.declared.view.Call.{Call}
use Rattle.log_rule.specs.declared.view.Call.TheVariants.{Idle, Filling, Joined, Emptying, Marked, Holding, Raising, Reopening}
use Rattle.log_rule.specs.Groups.{Outcome, Granted, Refused, GroupPhase, Vacant, Gathering, Closed, Placed, Ready, Told, Emptied, Piece, Member, Group}
use Rattle.log_rule.specs.Log.{Duty, Shared, Owed, Released, LogRange, Claim, picked, claim_of}

-- ---- members

abbrev pub is_member : ℕ → Member → Bool
is_member seat member = member.seat == seat

abbrev pub piece_of : Member → Piece
piece_of member = member.piece

-- the pieces of the seat
abbrev pub own_pieces : ℕ → List Member → List Piece
own_pieces seat members = picked (is_member seat) piece_of members

-- the piece that the call has at the slot
abbrev pub pieces_at : ℕ → Call → List Piece
pieces_at slot Idle = []
pieces_at slot (Filling entry) = []
pieces_at slot (Joined other piece step) = if other == slot then piece ∷ [] else []
pieces_at slot (Emptying other base total) = []
pieces_at slot (Marked after) = []
pieces_at slot (Holding at after) = []
pieces_at slot (Raising from to after) = []
pieces_at slot (Reopening other) = []

-- ---- who makes a slot's next step

-- the seat alone makes the next step of a slot at this phase, which ends it; while a group gathers others may join it
abbrev pub is_led_by : ℕ → GroupPhase → Bool
is_led_by seat Vacant = false
is_led_by seat (Gathering leader total) = leader == seat
is_led_by seat (Closed leader total) = leader == seat
is_led_by seat (Placed leader total outcome) = leader == seat
is_led_by seat (Ready leader total outcome) = leader == seat
is_led_by seat (Told total outcome remaining) = false
is_led_by seat (Emptied last) = last == seat

-- the phase as that seat knows it: the total of a group that gathers it does not know
abbrev pub known_phase : GroupPhase → GroupPhase
known_phase Vacant = Vacant
known_phase (Gathering leader total) = Gathering leader 0
known_phase (Closed leader total) = Closed leader total
known_phase (Placed leader total outcome) = Placed leader total outcome
known_phase (Ready leader total outcome) = Ready leader total outcome
known_phase (Told total outcome remaining) = Told total outcome remaining
known_phase (Emptied last) = Emptied last

-- so, where it is this seat
abbrev pub led_phase : ℕ → GroupPhase → List GroupPhase
led_phase seat phase = if is_led_by seat phase then known_phase phase ∷ [] else []

-- the phase that a member leads which is at this step
abbrev pub phase_led : ℕ → MemberStep → List GroupPhase
phase_led seat Closes = Gathering seat 0 ∷ []
phase_led seat Waits = []
phase_led seat (Hears refused total) = []
phase_led seat (Places total closed) = Closed seat total ∷ []
phase_led seat (Stores total base) = Placed seat total (Granted base) ∷ []
phase_led seat (Tells total outcome) = Ready seat total outcome ∷ []
phase_led seat (Fills base units) = []
phase_led seat (Leaves tail durable) = []

-- who reopens a slot has it to itself until then
abbrev pub phase_kept : ℕ → ℕ → After → List GroupPhase
phase_kept seat slot Nothing = []
phase_kept seat slot (Reopens other) = if other == slot then Emptied seat ∷ [] else []

-- the phase of the slot by a call that makes its next step
abbrev pub phase_at : ℕ → ℕ → Call → List GroupPhase
phase_at seat slot Idle = []
phase_at seat slot (Filling entry) = []
phase_at seat slot (Joined other piece step) = if other == slot then phase_led seat step else []
phase_at seat slot (Emptying other base total) = phase_kept seat slot (Reopens other)
phase_at seat slot (Marked after) = phase_kept seat slot after
phase_at seat slot (Holding at after) = phase_kept seat slot after
phase_at seat slot (Raising from to after) = phase_kept seat slot after
phase_at seat slot (Reopening other) = phase_kept seat slot (Reopens other)

-- ---- what a seat knows of its group

abbrev pub is_refused : Outcome → Bool
is_refused (Granted base) = false
is_refused (Refused tail durable) = true

-- the group is told this outcome
pub record IsToldOf (outcome : Outcome) (phase : GroupPhase) : Type 0 where
  pub total : ℕ
  pub remaining : ℕ
  pub told : phase ≡ Told total outcome remaining

-- the group is told, refused or not, and has this total
pub record IsToldAs (refused : Bool) (total : ℕ) (phase : GroupPhase) : Type 0 where
  pub outcome : Outcome
  pub remaining : ℕ
  pub told : phase ≡ Told total outcome remaining
  pub refused_is : refused ≡ is_refused outcome

-- what a member at this step knows of its group's phase
abbrev pub KnowsPhase : MemberStep → GroupPhase → Type 0
KnowsPhase Closes phase = Unit {0}
KnowsPhase Waits phase = Unit {0}
KnowsPhase (Hears refused total) phase = IsToldAs refused total phase
KnowsPhase (Places total closed) phase = Unit {0}
KnowsPhase (Stores total base) phase = Unit {0}
KnowsPhase (Tells total outcome) phase = Unit {0}
KnowsPhase (Fills base units) phase = IsToldOf (Granted base) phase
KnowsPhase (Leaves tail durable) phase = IsToldOf (Refused tail durable) phase

-- what a call knows of the groups
abbrev pub KnowsGroup : (ℕ → Group) → Call → Type 0
KnowsGroup groups Idle = Unit {0}
KnowsGroup groups (Filling entry) = Unit {0}
KnowsGroup groups (Joined slot piece step) = KnowsPhase step (groups slot).phase
KnowsGroup groups (Emptying slot base total) = Unit {0}
KnowsGroup groups (Marked after) = Unit {0}
KnowsGroup groups (Holding at after) = Unit {0}
KnowsGroup groups (Raising from to after) = Unit {0}
KnowsGroup groups (Reopening slot) = Unit {0}

-- ---- the slot's words and range

abbrev pub is_shared_at : ℕ → Duty → Bool
is_shared_at slot (Shared other) = other == slot
is_shared_at slot (Owed seat) = false
is_shared_at slot Released = false

abbrev pub shares : ℕ → LogRange → Bool
shares slot range = is_shared_at slot range.duty

-- the ranges that the members at the slot have to release
abbrev pub shared : ℕ → List LogRange → List Claim
shared slot ranges = picked (shares slot) claim_of ranges

-- the range of a group with this outcome
abbrev pub granted_range : Outcome → ℕ → ℕ → List Claim
granted_range (Granted base) total remaining = record { base = base; size = total; remaining = remaining } ∷ []
granted_range (Refused tail durable) total remaining = []

-- the range of a group that is not all released
abbrev pub range_of : GroupPhase → List Claim
range_of Vacant = []
range_of (Gathering leader total) = []
range_of (Closed leader total) = []
range_of (Placed leader total outcome) = granted_range outcome total total
range_of (Ready leader total outcome) = granted_range outcome total total
range_of (Told total outcome remaining) = granted_range outcome total remaining
range_of (Emptied last) = []

-- the pieces follow one another from one offset to another, none of them empty
abbrev pub PiecesTile : ℕ → List Member → ℕ → Type 0
PiecesTile from [] to = from ≡ to
PiecesTile from (member ∷ members) to = (member.piece.offset ≡ from) × (1 ≤ member.piece.size) × PiecesTile (from + member.piece.size) members to

-- the units of the members' pieces
abbrev pub sum_of : List Member → ℕ
sum_of [] = 0
sum_of (member ∷ members) = member.piece.size + sum_of members

-- the piece is not empty, and lies within the total
abbrev pub LiesWithin : ℕ → Member → Type 0
LiesWithin total member = (1 ≤ member.piece.size) × (member.piece.offset + member.piece.size ≤ total)

-- the pieces tile the total, which is 1 to `most`
pub record HasJoined (most total : ℕ) (members : List Member) : Type 0 where
  pub tiles : PiecesTile 0 members total
  pub some_units : 1 ≤ total
  pub few : total ≤ most

-- what remains of the total, 1 to `most`, is the members' pieces, each within it
pub record HasRemaining (most total remaining : ℕ) (members : List Member) : Type 0 where
  pub sum : sum_of members ≡ remaining
  pub some_units : 1 ≤ remaining
  pub within : remaining ≤ total
  pub few : total ≤ most
  pub each : AllByRecursion (LiesWithin total) members

-- a slot's base word: the base; of a group that is refused, tail in the high and durable in the low 32 bits
abbrev pub outcome_word : Outcome → ℕ
outcome_word (Granted base) = base
outcome_word (Refused tail durable) = tail * 2 ^ 32 + durable

abbrev pub FitsBase : Outcome → Type 0
FitsBase (Granted base) = Unit {0}
FitsBase (Refused tail durable) = durable < 2 ^ 32

-- the base word tells the outcome
pub record TellsOutcome (base : ℕ) (outcome : Outcome) : Type 0 where
  pub is : base ≡ outcome_word outcome
  pub fits : FitsBase outcome

-- the state of a slot whose group is told
abbrev pub told_word : Outcome → ℕ → ℕ → ℕ
told_word (Granted base) total remaining = packed kind.Published total remaining
told_word (Refused tail durable) total remaining = packed kind.Refused total remaining

-- nobody is at the slot, and its state is 0
pub record IsVacant (word : ℕ) (members : List Member) : Type 0 where
  pub word_is : word ≡ 0
  pub nobody : members ≡ []

-- who joins finds the total so far
pub record IsGathering (most word total : ℕ) (members : List Member) : Type 0 where
  pub word_is : word ≡ packed kind.Gathering total 0
  pub joined : HasJoined most total members

-- nobody joins, and the leader alone knows the total
pub record IsClosed (most word total : ℕ) (members : List Member) : Type 0 where
  pub word_is : word ≡ packed kind.Pending 0 0
  pub joined : HasJoined most total members

-- the range is reserved
pub record IsPlaced (most word total : ℕ) (outcome : Outcome) (members : List Member) : Type 0 where
  pub word_is : word ≡ packed kind.Pending 0 0
  pub granted : is_refused outcome ≡ false
  pub remains : HasRemaining most total total members

-- and the base stored, or why there is none
pub record IsReadyToTell (most word base total : ℕ) (outcome : Outcome) (members : List Member) : Type 0 where
  pub word_is : word ≡ packed kind.Pending 0 0
  pub remains : HasRemaining most total total members
  pub base_is : TellsOutcome base outcome

-- the members may hear
pub record IsTold (most word base total : ℕ) (outcome : Outcome) (remaining : ℕ) (members : List Member) : Type 0 where
  pub word_is : word ≡ told_word outcome total remaining
  pub remains : HasRemaining most total remaining members
  pub base_is : TellsOutcome base outcome

-- all have released, and the last of them has the slot to itself
pub record IsEmptied (most word : ℕ) (members : List Member) : Type 0 where
  pub outcome : Outcome
  pub total : ℕ
  pub few : total ≤ most
  pub word_is : word ≡ told_word outcome total 0
  pub nobody : members ≡ []

-- the words of a slot and the members there are those of a group at this phase, of at most `most` units
abbrev pub IsAtPhase : ℕ → ℕ → ℕ → List Member → GroupPhase → Type 0
IsAtPhase most word base members Vacant = IsVacant word members
IsAtPhase most word base members (Gathering leader total) = IsGathering most word total members
IsAtPhase most word base members (Closed leader total) = IsClosed most word total members
IsAtPhase most word base members (Placed leader total outcome) = IsPlaced most word total outcome members
IsAtPhase most word base members (Ready leader total outcome) = IsReadyToTell most word base total outcome members
IsAtPhase most word base members (Told total outcome remaining) = IsTold most word base total outcome remaining members
IsAtPhase most word base members (Emptied last) = IsEmptied most word members

-- the range that the members have to release is their group's, and the slot's words are those of its phase
pub record IsSoundSlot (most word base slot : ℕ) (ahead : List LogRange) (group : Group) : Type 0 where
  pub range : shared slot ahead ≡ range_of group.phase
  pub words : IsAtPhase most word base group.members group.phase
