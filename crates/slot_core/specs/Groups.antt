-- What holds of the group at a slot: where its members' pieces lie, and what of its range is filled and what remains.
use Rattle.std.specs.Prelude.{◌≡◌, ℕ, ◌==◌, ◌+◌, ◌≤◌, cond, List, [], ◌∷◌, Some}
use Rattle.std.specs.List.{find}
use Rattle.lsn_space.specs.declared.lsn.TheConstants.{LAST}
use Rattle.ring_core.specs.RingLog.{Reservation, is_at}
use Rattle.slot_core.specs.State.{Outcome, Granted, Refused, GroupPhase, Vacant, Gathering, Closed, Placed, Ready, Told, Emptied, MemberStage, Closes}
use Rattle.slot_core.specs.State.{Waits, Places, Stores, Tells, Fills, Leaves, Task, Joined, InRing, Hand, Member, Group, task_of, group_at}

-- units that a member at this stage has filled of its piece
abbrev pub units_at : MemberStage → ℕ
units_at Closes = 0
units_at Waits = 0
units_at Places = 0
units_at Stores = 0
units_at Tells = 0
units_at (Fills units) = units
units_at Leaves = 0

-- units that the actor has filled as a member of the group at the slot
abbrev pub units_in : ℕ → Task → ℕ
units_in slot (Joined m) = cond (m.slot == slot) (units_at m.stage) 0
units_in slot (InRing reopens stage) = 0

-- units that these members have filled
abbrev pub units_of : ℕ → List Hand → List Member → ℕ
units_of slot hands [] = 0
units_of slot hands (m ∷ ms) = units_in slot (task_of m.actor hands) + units_of slot hands ms

-- the sum of the members' sizes
abbrev pub sum_of : List Member → ℕ
sum_of [] = 0
sum_of (m ∷ ms) = m.size + sum_of ms

-- the members' pieces tile from one place to another: each begins where the one before ends
abbrev pub Tiles : ℕ → List Member → ℕ → Type 0
Tiles from [] to = from ≡ to
Tiles from (m ∷ ms) to = (m.offset ≡ from) × (1 ≤ m.size) × Tiles (from + m.size) ms to

-- they lie apart and in order between two places
abbrev pub LieApart : ℕ → List Member → ℕ → Type 0
LieApart from [] to = from ≤ to
LieApart from (m ∷ ms) to = (from ≤ m.offset) × (1 ≤ m.size) × LieApart (m.offset + m.size) ms to

-- the group's range: its filled units, and those that aren't released, are together all units and those that the members have filled
-- who haven't released. So what is released is filled
pub record HasRange (reservations : List Reservation) (base total remaining units : ℕ) : Type 0 where
  pub r : Reservation
  pub found : find (is_at base) reservations ≡ Some r
  pub size : r.size ≡ total
  pub filled : r.filled + remaining ≡ total + units

-- of a refusal both numbers are LSNs, so they fit a word
abbrev pub IsTrueOutcome : List Reservation → Outcome → ℕ → ℕ → ℕ → Type 0
IsTrueOutcome reservations (Granted base) total remaining units = HasRange reservations base total remaining units
IsTrueOutcome reservations (Refused tail durable) total remaining units = (tail ≤ LAST) × (durable ≤ LAST)

-- until the group is told, the pieces tile it
pub record IsGathered (quarter : ℕ) (ms : List Member) (total : ℕ) : Type 0 where
  pub tiles : Tiles 0 ms total
  pub positive : 1 ≤ total
  pub within_quarter : total ≤ quarter

-- the group has its range, with no unit released, or is refused
pub record IsPlaced (quarter : ℕ) (reservations : List Reservation) (ms : List Member) (total : ℕ)
    (outcome : Outcome) (units : ℕ) : Type 0 where
  pub gathered : IsGathered quarter ms total
  pub covers : IsTrueOutcome reservations outcome total total units

-- once the group is told, the pieces of those who haven't released lie apart, and what remains is their sum
pub record IsReleasing (quarter : ℕ) (reservations : List Reservation) (ms : List Member) (total : ℕ)
    (outcome : Outcome) (remaining units : ℕ) : Type 0 where
  pub apart : LieApart 0 ms total
  pub sum : sum_of ms ≡ remaining
  pub positive : 1 ≤ remaining
  pub within : remaining ≤ total
  pub within_quarter : total ≤ quarter
  pub covers : IsTrueOutcome reservations outcome total remaining units

-- what holds of a group at each phase, of whose range its members have filled so many units
abbrev pub IsGroup : ℕ → List Reservation → ℕ → List Member → GroupPhase → Type 0
IsGroup quarter reservations units ms Vacant = ms ≡ []
IsGroup quarter reservations units ms (Gathering leader total) = IsGathered quarter ms total
IsGroup quarter reservations units ms (Closed leader total) = IsGathered quarter ms total
IsGroup quarter reservations units ms (Placed leader total outcome) = IsPlaced quarter reservations ms total outcome units
IsGroup quarter reservations units ms (Ready leader total outcome) = IsPlaced quarter reservations ms total outcome units
IsGroup quarter reservations units ms (Told total outcome remaining) =
    IsReleasing quarter reservations ms total outcome remaining units
IsGroup quarter reservations units ms (Emptied last) = ms ≡ []

-- the groups of all slots are so
abbrev pub AllGroups : ℕ → List Reservation → List Hand → List Group → Type 0
AllGroups quarter reservations hands groups =
    (slot : ℕ) → IsGroup quarter reservations (units_of slot hands (group_at slot groups).members)
    (group_at slot groups).members (group_at slot groups).phase
