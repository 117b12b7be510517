-- What ties the actors to the groups at the slots: who is a member, who makes a slot's next step, and what was heard.
use Rattle.std.specs.Prelude.{◌≡◌, ℕ, ◌==◌, cond, Bool, List, [], ◌∷◌, Option, Some, None}
use Rattle.slot_core.specs.State.{Outcome, Granted, Refused, GroupPhase, Vacant, Gathering, Closed, Placed, Ready, Told, Emptied, MemberStage, Closes}
use Rattle.slot_core.specs.State.{Waits, Places, Stores, Tells, Fills, Leaves, Task, Joined, InRing, Hand, Member, Group, task_of, group_at}

-- g of those with f, in order
abbrev pub picked : {A : Type 0} {B : Type 0} → (A → Bool) → (A → B) → List A → List B
picked f g [] = []
picked f g (x ∷ xs) = cond (f x) (g x ∷ picked f g xs) (picked f g xs)

-- the actor's piece of the group at the slot, by what the actor has in hand
abbrev pub seat_in : ℕ → Task → List (ℕ × ℕ)
seat_in slot (Joined m) = cond (m.slot == slot) ((m.offset, m.size) ∷ []) []
seat_in slot (InRing reopens stage) = []

-- the entry is the actor's
abbrev pub is_of : ℕ → Member → Bool
is_of actor m = m.actor == actor

-- where a member's piece begins, and how long it is
abbrev pub extent_of : Member → ℕ × ℕ
extent_of m = (m.offset, m.size)

-- the actor's pieces, by the group's members
abbrev pub seats_of : ℕ → List Member → List (ℕ × ℕ)
seats_of actor ms = picked (is_of actor) extent_of ms

-- a slot's next step, where it is one that only one actor makes
pub data NextStep : Type 0 where
  ToClose : NextStep
  ToPlace : NextStep
  ToStore : NextStep
  ToTell : NextStep
  ToReopen : NextStep

-- the step of a slot at this phase, if the actor is the one who makes it
abbrev pub step_of : ℕ → GroupPhase → List NextStep
step_of actor Vacant = []
step_of actor (Gathering leader total) = cond (leader == actor) (ToClose ∷ []) []
step_of actor (Closed leader total) = cond (leader == actor) (ToPlace ∷ []) []
step_of actor (Placed leader total outcome) = cond (leader == actor) (ToStore ∷ []) []
step_of actor (Ready leader total outcome) = cond (leader == actor) (ToTell ∷ []) []
step_of actor (Told total outcome remaining) = []
step_of actor (Emptied last) = cond (last == actor) (ToReopen ∷ []) []

-- the step that a member at this stage makes for its slot
abbrev pub step_at : MemberStage → List NextStep
step_at Closes = ToClose ∷ []
step_at Waits = []
step_at Places = ToPlace ∷ []
step_at Stores = ToStore ∷ []
step_at Tells = ToTell ∷ []
step_at (Fills units) = []
step_at Leaves = []

-- who opens a slot again makes its next step
abbrev pub step_behind : ℕ → Option ℕ → List NextStep
step_behind slot None = []
step_behind slot (Some reopens) = cond (reopens == slot) (ToReopen ∷ []) []

-- the step that the actor makes for the slot, by what it has in hand
abbrev pub step_in : ℕ → Task → List NextStep
step_in slot (Joined m) = cond (m.slot == slot) (step_at m.stage) []
step_in slot (InRing reopens stage) = step_behind slot reopens

-- a range was reserved
abbrev pub IsGranted : Outcome → Type 0
IsGranted (Granted base) = Unit {0}
IsGranted (Refused tail durable) = ⊥

-- there was no room
abbrev pub IsRefused : Outcome → Type 0
IsRefused (Granted base) = ⊥
IsRefused (Refused tail durable) = Unit {0}

-- the group is told such an outcome
abbrev pub IsTold : (Outcome → Type 0) → GroupPhase → Type 0
IsTold P phase = (total : ℕ) × (outcome : Outcome) × (remaining : ℕ) × (phase ≡ Told total outcome remaining) × P outcome

-- what a member at this stage has heard is what its group is told
abbrev pub HasHeard : MemberStage → GroupPhase → Type 0
HasHeard Closes phase = Unit {0}
HasHeard Waits phase = Unit {0}
HasHeard Places phase = Unit {0}
HasHeard Stores phase = Unit {0}
HasHeard Tells phase = Unit {0}
HasHeard (Fills units) phase = IsTold IsGranted phase
HasHeard Leaves phase = IsTold IsRefused phase

-- so it is where the actor is a member of the group at this slot
abbrev pub HasHeardAt : ℕ → Task → GroupPhase → Type 0
HasHeardAt slot (Joined m) phase = m.slot ≡ slot → HasHeard m.stage phase
HasHeardAt slot (InRing reopens stage) phase = Unit {0}

-- an actor and a slot agree: on the actor's membership, on whether it makes the slot's next step, and on what it has heard. Each side of
-- the equations is a list of at most one, so they say that there is one, and no other
pub record Link (actor slot : ℕ) (task : Task) (g : Group) : Type 0 where
  pub joins : seats_of actor g.members ≡ seat_in slot task
  pub leads : step_of actor g.phase ≡ step_in slot task
  pub told : HasHeardAt slot task g.phase

-- all actors agree with all slots
abbrev pub AllLinked : List Hand → List Group → Type 0
AllLinked hands groups = (actor slot : ℕ) → Link actor slot (task_of actor hands) (group_at slot groups)
