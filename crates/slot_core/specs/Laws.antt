-- What holds of each state that the machine reaches.
use Rattle.std.specs.Prelude.{◌≡◌, ℕ, ◌/◌, ◌≤◌, true, IsSomeAnd, List, Option, Some, None}
use Rattle.std.specs.List.{find}
use Rattle.ring_core.specs.RingLog.{RingLog, IsFull, is_at, is_marked}
use Rattle.ring_core.specs.LogLaws.{IsSoundLog}
pub use Rattle.ring_core.specs.Laws.{IsPassed, IsOnTheWay}
use Rattle.slot_core.specs.State.{Stage, Idle, Works, Marked, Holds, Raises, MemberStage, Fills, Task, Joined, InRing, Hand, SlotState, nothing, task_of, ring_stage, group_at}
use Rattle.slot_core.specs.Owners.{Owner, is_actor, is_slot, is_owned, works_on, placed_at, is_open}
use Rattle.slot_core.specs.Members.{AllLinked}
use Rattle.slot_core.specs.Groups.{AllGroups}

-- no more units of a piece are filled than there are
abbrev pub FitsPiece : ℕ → MemberStage → Type 0
FitsPiece size (Fills units) = units ≤ size
FitsPiece size _ = Unit {0}

-- the range of a group that all have released is full
abbrev pub IsTrueWork : RingLog → Option ℕ → ℕ → Type 0
IsTrueWork l None base = Unit {0}
IsTrueWork l (Some slot) base = IsSomeAnd (find (is_at base) l.reservations) IsFull

-- an LSN in hand is a boundary, at most exposed; who is about to raise exposed from there has seen a mark there
abbrev pub IsTrueStage : RingLog → Option ℕ → Stage → Type 0
IsTrueStage l reopens Idle = Unit {0}
IsTrueStage l reopens (Works base) = IsTrueWork l reopens base
IsTrueStage l reopens Marked = Unit {0}
IsTrueStage l reopens (Holds at) = IsPassed l at
IsTrueStage l reopens (Raises at) = IsPassed l at × (is_marked at l.reservations ≡ true)

-- what the actor has in hand holds of the log
abbrev pub IsTrueTask : RingLog → Task → Type 0
IsTrueTask l (Joined m) = FitsPiece m.size m.stage
IsTrueTask l (InRing reopens stage) = IsTrueStage l reopens stage

-- the actor is on the way to expose what is marked at this place
abbrev pub Carries : ℕ → Task → Type 0
Carries place task = IsOnTheWay place (ring_stage task)

-- some actor is
pub record HasCarrier (hands : List Hand) (place : ℕ) : Type 0 where
  pub actor : ℕ
  pub carries : Carries place (task_of actor hands)

-- each law by its name. Each base has one owner, which the actors, the slots and the log know alike
pub record IsSound (s : SlotState) : Type 0 where
  pub log : IsSoundLog s.log
  pub owner : ℕ → Owner
  pub works : (actor base : ℕ) → works_on base (task_of actor s.hands) ≡ is_actor actor (owner base)
  pub shares : (slot base : ℕ) → placed_at base (group_at slot s.groups).phase ≡ is_slot slot (owner base)
  pub owned : (base : ℕ) → is_open (find (is_at base) s.log.reservations) ≡ is_owned (owner base)
  pub links : AllLinked s.hands s.groups
  pub groups : AllGroups (s.log.ring / 4) s.log.reservations s.hands s.groups
  pub tasks : (actor : ℕ) → IsTrueTask s.log (task_of actor s.hands)
  pub carried : is_marked s.log.exposed s.log.reservations ≡ true → HasCarrier s.hands s.log.exposed

-- nobody has anything in hand
abbrev pub IsAtRest : SlotState → Type 0
IsAtRest s = (actor : ℕ) → task_of actor s.hands ≡ nothing
