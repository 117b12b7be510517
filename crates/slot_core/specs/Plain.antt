-- What soundness says of owners and of groups, in plain words.
use Rattle.std.specs.Prelude.{◌≡◌, ◌≢◌, ◌↔◌, ◌⊎◌, ℕ, ◌+◌, ◌≤◌, true, false, [], ◌∷◌, Some}
use Rattle.std.specs.List.{find}
use Rattle.ring_core.specs.RingLog.{Reservation, is_at}
use Rattle.slot_core.specs.State.{Outcome, Told, Closes, SlotState, task_of, group_at}
use Rattle.slot_core.specs.Owners.{works_on, placed_at}
use Rattle.slot_core.specs.Members.{seat_in, seats_of, step_in, step_of}
use Rattle.slot_core.specs.Groups.{sum_of}
use Rattle.slot_core.specs.Machine.{MayJoin, gathered, stage_joined}

-- a reservation that isn't marked is worked on by an actor, or is the range of the group at a slot
abbrev pub HasOwners : SlotState → Type 0
HasOwners s = (base : ℕ) (r : Reservation) → find (is_at base) s.log.reservations ≡ Some r → r.released ≡ false
    → ((actor : ℕ) × (works_on base (task_of actor s.hands) ≡ true))
    ⊎ ((slot : ℕ) × (placed_at base (group_at slot s.groups).phase ≡ true))

-- by one actor
abbrev pub WorksAlone : SlotState → Type 0
WorksAlone s = (base i j : ℕ) → works_on base (task_of i s.hands) ≡ true → works_on base (task_of j s.hands) ≡ true → i ≡ j

-- of one slot
abbrev pub IsOfOneSlot : SlotState → Type 0
IsOfOneSlot s = (base i j : ℕ) → placed_at base (group_at i s.groups).phase ≡ true
    → placed_at base (group_at j s.groups).phase ≡ true → i ≡ j

-- and not both
abbrev pub IsOfOneKind : SlotState → Type 0
IsOfOneKind s = (base actor slot : ℕ) → works_on base (task_of actor s.hands) ≡ true
    → placed_at base (group_at slot s.groups).phase ≡ true → ⊥

-- who joins at offset 0 leads, and no other
abbrev pub LeadsFromZero : SlotState → Type 0
LeadsFromZero s = (actor slot n : ℕ) → MayJoin s actor slot n
    → (stage_joined (group_at slot s.groups).phase ≡ Closes) ↔ (gathered (group_at slot s.groups).phase ≡ 0)

-- the actor that makes a slot's next step is the one whom the group names, and no other
abbrev pub StepsAlone : SlotState → Type 0
StepsAlone s = (actor slot : ℕ) → step_in slot (task_of actor s.hands) ≡ step_of actor (group_at slot s.groups).phase

-- a member's piece is the one that it has in hand
abbrev pub HoldsPiece : SlotState → Type 0
HoldsPiece s = (actor slot : ℕ) → seats_of actor (group_at slot s.groups).members ≡ seat_in slot (task_of actor s.hands)

-- pieces of two members lie apart
abbrev pub HasPiecesApart : SlotState → Type 0
HasPiecesApart s = (slot i j a n b m : ℕ) → i ≢ j → seats_of i (group_at slot s.groups).members ≡ (a, n) ∷ []
    → seats_of j (group_at slot s.groups).members ≡ (b, m) ∷ []
    → (a + n ≤ b) ⊎ (b + m ≤ a)

-- where the group has a range, a member's piece lies within it
abbrev pub HasPiecesInRange : SlotState → Type 0
HasPiecesInRange s = (slot actor a n base : ℕ) → placed_at base (group_at slot s.groups).phase ≡ true
    → seats_of actor (group_at slot s.groups).members ≡ (a, n) ∷ []
    → (r : Reservation) × (find (is_at base) s.log.reservations ≡ Some r) × (base + a + n ≤ base + r.size)

-- what remains of a group that is told is the sum of the pieces that aren't released
abbrev pub SumsRemaining : SlotState → Type 0
SumsRemaining s = (slot total remaining : ℕ) (outcome : Outcome) → (group_at slot s.groups).phase ≡ Told total outcome remaining
    → sum_of (group_at slot s.groups).members ≡ remaining
