-- What the machine's state is made of: the log by its bases, what each actor has in hand, and the group at each slot.
use Rattle.std.specs.Prelude.{ℕ, ◌==◌, if◌then◌else◌, List, [], ◌∷◌, get_or}
use Rattle.ring_core.specs.RingLog.{RingLog}
pub use Rattle.ring_core.specs.declared.stage.Stage.{Stage}
pub use Rattle.ring_core.specs.declared.stage.Stage.TheVariants.{Idle, Works, Marked, Holds, Raises}
pub use Rattle.slot_parts.specs.declared.phase.Outcome.{Outcome}
pub use Rattle.slot_parts.specs.declared.phase.Outcome.TheVariants.{Granted, Refused}
pub use Rattle.slot_parts.specs.declared.phase.GroupPhase.{GroupPhase}
pub use Rattle.slot_parts.specs.declared.phase.GroupPhase.TheVariants.{Vacant, Gathering, Closed, Placed, Ready, Told, Emptied}
pub use Rattle.slot_parts.specs.declared.task.MemberStage.{MemberStage}
pub use Rattle.slot_parts.specs.declared.task.MemberStage.TheVariants.{Closes, Waits, Places, Stores, Tells, Fills, Leaves}
pub use Rattle.slot_parts.specs.declared.task.Membership.{Membership}
pub use Rattle.slot_parts.specs.declared.task.Task.{Task}
pub use Rattle.slot_parts.specs.declared.task.Task.TheVariants.{Joined, InRing}
pub use Rattle.slot_parts.specs.Tasks.{nothing, joined, membership, ring_stage, reopening}

-- an actor, and what it has in hand
pub record Hand : Type 0 where
  pub actor : ℕ
  pub task : Task

-- one that has joined a group and not released: its piece is `size` units of the group's total, from `offset` on
pub record Member : Type 0 where
  pub actor : ℕ
  pub offset : ℕ
  pub size : ℕ

-- the members that have not released, in order, and how far the group has come
pub record Group : Type 0 where
  pub members : List Member
  pub phase : GroupPhase

-- the log, the actors that ever had something in hand, and the groups by their slots
pub record SlotState : Type 0 where
  pub log : RingLog
  pub hands : List Hand
  pub groups : List Group

-- the actor with this in hand
abbrev pub row_of : ℕ → Task → Hand
row_of actor task = record { actor = actor; task = task }

-- what the actor has in hand; one that is not listed has nothing
abbrev pub task_of : ℕ → List Hand → Task
task_of actor [] = nothing
task_of actor (h ∷ hands) = if h.actor == actor then h.task else task_of actor hands

-- the hands, but that the actor has this
abbrev pub with_task : ℕ → Task → List Hand → List Hand
with_task actor task [] = row_of actor task ∷ []
with_task actor task (h ∷ hands) = if h.actor == actor then row_of actor task ∷ hands else h ∷ with_task actor task hands

-- one who has joined a group
abbrev pub member : ℕ → ℕ → ℕ → Member
member actor offset size = record { actor = actor; offset = offset; size = size }

-- these members, at this phase
abbrev pub group : List Member → GroupPhase → Group
group members phase = record { members = members; phase = phase }

-- a group of nobody
abbrev pub empty_group : Group
empty_group = group [] Vacant

-- the group at the slot; beyond the machine's slots there is nobody
abbrev pub group_at : ℕ → List Group → Group
group_at slot groups = get_or groups slot empty_group

-- the members but the actor
abbrev pub without : ℕ → List Member → List Member
without actor [] = []
without actor (m ∷ ms) = if m.actor == actor then ms else m ∷ without actor ms
