-- The reserved part of the log as lists that no word holds: its parts, each with its owner, and the reserved ranges; and the groups at the
-- slots.
-- One seat's range is one part; a group's range is as many parts as it had members when it was placed.
use Rattle.std.specs.Prelude.{◌≡◌, ◌≢◌, ◌==◌, ◌&&◌, ◌⊎◌, ℕ, ◌+◌, ◌-◌, ◌%◌, ◌<◌, ◌≤◌, if◌then◌else◌, nat_le, nat_lt, Bool, true, false, List, [], ◌∷◌, ◌++◌, length, slice_index}
use Rattle.lsn_space.specs.Tiling.{IsTilingBoundary}
use Rattle.log_record.specs.declared.rec.Rec.{Rec}
use Rattle.log_record.specs.Spelling.{spelling, IsSpellable}
use Rattle.log_rule.specs.declared.view.Entry.{Entry}
use Rattle.log_rule.specs.Groups.{Group}

-- a range of units, the number of the seat that owns it, and whether that seat has released it
pub record Part : Type 0 where
  pub owner : ℕ
  pub entry : Entry
  pub released : Bool

-- who still has to release a range: the members of a slot's group, one seat, or nobody
pub data Duty : Type 0 where
  Shared : (slot : ℕ) → Duty
  Owed : (seat : ℕ) → Duty
  Released : Duty

-- a reserved range, and how many of its units are not yet released
pub record LogRange : Type 0 where
  pub base : ℕ
  pub size : ℕ
  pub remaining : ℕ
  pub duty : Duty

-- a range as its owner knows it
pub record Claim : Type 0 where
  pub base : ℕ
  pub size : ℕ
  pub remaining : ℕ

-- All parts in order, and the ranges: those that are flushed, which end at durable, those that are exposed and not flushed, and those
-- ahead of exposed, up to the tail; and the group at each slot
pub record Log : Type 0 where
  pub parts : List Part
  pub flushed : List LogRange
  pub exposed : List LogRange
  pub ahead : List LogRange
  pub groups : ℕ → Group

-- all ranges in order
abbrev pub ranges_of : Log → List LogRange
ranges_of log = log.flushed ++ (log.exposed ++ log.ahead)

-- of those that pass the test, in order, what `tell` tells
abbrev pub picked : {A : Type 0} {B : Type 0} → (A → Bool) → (A → B) → List A → List B
picked test tell [] = []
picked test tell (x ∷ xs) = if test x then tell x ∷ picked test tell xs else picked test tell xs

abbrev pub is_by : ℕ → Part → Bool
is_by seat part = part.owner == seat

abbrev pub whole : Part → Part
whole part = part

-- the seat's parts
abbrev pub own : ℕ → List Part → List Part
own seat parts = picked (is_by seat) whole parts

-- the entry as a part of the seat
abbrev pub part_of : ℕ → Bool → Entry → Part
part_of seat released entry = record { owner = seat; entry = entry; released = released }

-- the entries as parts of the seat
abbrev pub parts_of : ℕ → Bool → List Entry → List Part
parts_of seat released [] = []
parts_of seat released (entry ∷ entries) = part_of seat released entry ∷ parts_of seat released entries

abbrev pub is_owed_by : ℕ → Duty → Bool
is_owed_by seat (Shared slot) = false
is_owed_by seat (Owed other) = other == seat
is_owed_by seat Released = false

abbrev pub owes : ℕ → LogRange → Bool
owes seat range = is_owed_by seat range.duty

abbrev pub claim_of : LogRange → Claim
claim_of range = record { base = range.base; size = range.size; remaining = range.remaining }

-- the ranges that the seat has to release
abbrev pub owed : ℕ → List LogRange → List Claim
owed seat ranges = picked (owes seat) claim_of ranges

-- the entry's units, where it starts in the `size` units from `base` on
abbrev pub inside : ℕ → ℕ → Entry → ℕ
inside base size entry = if nat_le base entry.start && nat_lt entry.start (base + size) then entry.size else 0

-- the units there that are not released
abbrev pub unreleased_in : ℕ → ℕ → List Part → ℕ
unreleased_in base size [] = 0
unreleased_in base size (part ∷ parts) = (if part.released then 0 else inside base size part.entry) + unreleased_in base size parts

-- the entry's units that are filled, where it starts in the `size` units from `base` on
abbrev pub filled_inside : ℕ → ℕ → Entry → ℕ
filled_inside base size entry = if nat_le base entry.start && nat_lt entry.start (base + size) then length entry.units else 0

-- the units there that are filled
abbrev pub filled_in : ℕ → ℕ → List Part → ℕ
filled_in base size [] = 0
filled_in base size (part ∷ parts) = filled_inside base size part.entry + filled_in base size parts

-- the ranges follow one another from one LSN to another, each of 1 to `most` units
abbrev pub Tiles : ℕ → ℕ → List LogRange → ℕ → Type 0
Tiles most from [] to = from ≡ to
Tiles most from (range ∷ ranges) to = (range.base ≡ from) × (1 ≤ range.size) × (range.size ≤ most) × Tiles most (from + range.size) ranges to

-- the parts follow one another from one LSN to another, none of them empty
abbrev pub Laid : ℕ → List Part → ℕ → Type 0
Laid from [] to = from ≡ to
Laid from (part ∷ parts) to = (part.entry.start ≡ from) × (1 ≤ part.entry.size) × Laid (from + part.entry.size) parts to

-- all its units are filled
abbrev pub IsFull : Entry → Type 0
IsFull entry = length entry.units ≡ entry.size

-- the units of the entries, joined
abbrev pub units_in : List Entry → List ℕ
units_in [] = []
units_in (entry ∷ entries) = entry.units ++ units_in entries

-- where an entry begins or ends
abbrev pub IsEntryBoundary : ℕ → List Entry → ℕ → Type 0
IsEntryBoundary start entries at = IsTilingBoundary (λ (entry : Entry). entry.size) start entries at

-- where a range begins or ends
abbrev pub IsRangeBoundary : ℕ → List LogRange → ℕ → Type 0
IsRangeBoundary start ranges at = IsTilingBoundary (λ (range : LogRange). range.size) start ranges at

-- the range ends where a part does
abbrev pub EndsWithPart : ℕ → List Part → LogRange → Type 0
EndsWithPart start parts range = IsTilingBoundary (λ (part : Part). part.entry.size) start parts (range.base + range.size)

-- as many units were reserved as the record has, and those filled are its first
pub record SpellsRecord (part : Part) : Type 0 where
  pub spellable : IsSpellable part.entry.rec
  pub size : part.entry.size ≡ length (spelling part.entry.rec)
  pub rest : List ℕ
  pub units : part.entry.units ++ rest ≡ spelling part.entry.rec

-- the entry's record is in the log whole
pub record IsSpelled (entry : Entry) : Type 0 where
  pub spellable : IsSpellable entry.rec
  pub units : entry.units ≡ spelling entry.rec

-- the records of the parts
abbrev pub records_in : List Part → List Rec
records_in [] = []
records_in (part ∷ parts) = part.entry.rec ∷ records_in parts

-- each filled unit at or above durable stands in its word of the ring
abbrev pub StandsInRing : ℕ → ℕ → (ℕ → ℕ) → Part → Type 0
StandsInRing size durable ring part = (i : ℕ) → i < length part.entry.units → durable ≤ part.entry.start + i
    → ring ((part.entry.start + i) % size) ≡ slice_index part.entry.units i

-- each filled unit at an LSN that the list of units covers, which begins at `base`, is the list's
abbrev pub AgreesFrom : ℕ → List ℕ → Part → Type 0
AgreesFrom base units part = (i : ℕ) → i < length part.entry.units → base ≤ part.entry.start + i → part.entry.start + i < base + length units
    → slice_index units (part.entry.start + i - base) ≡ slice_index part.entry.units i

-- a part that is released is full
abbrev pub IsFullIfReleased : Part → Type 0
IsFullIfReleased part = part.released ≡ true → IsFull part.entry

-- a part below exposed is released
abbrev pub IsReleasedBelow : ℕ → Part → Type 0
IsReleasedBelow exposed part = part.entry.start < exposed → part.released ≡ true

abbrev pub IsReleased : LogRange → Type 0
IsReleased range = range.duty ≡ Released

-- one seat has to release the range
pub record IsOwedBySeat (range : LogRange) : Type 0 where
  pub seat : ℕ
  pub duty : range.duty ≡ Owed seat

-- the members at a slot have to release it, and there are some
pub record IsSharedByMembers (groups : ℕ → Group) (range : LogRange) : Type 0 where
  pub slot : ℕ
  pub duty : range.duty ≡ Shared slot
  pub members : (groups slot).members ≢ []

-- the range is owed by a seat, or shared by a slot's members
abbrev pub IsOwed : (ℕ → Group) → LogRange → Type 0
IsOwed groups range = IsOwedBySeat range ⊎ IsSharedByMembers groups range

-- where the range is not released, somebody has to release it
abbrev pub IsAtWork : (ℕ → Group) → LogRange → Type 0
IsAtWork groups range = IsReleased range ⊎ IsOwed groups range

abbrev pub is_released : Duty → Bool
is_released (Shared slot) = false
is_released (Owed seat) = false
is_released Released = true

-- what remains of the range is what its parts have that is not released
abbrev pub CountsRemaining : List Part → LogRange → Type 0
CountsRemaining parts range = unreleased_in range.base range.size parts ≡ range.remaining
