-- What an actor has in hand, and what becomes of it.
use Rattle.std.specs.Prelude.{◌≡◌, ℕ, ◌+◌, ◌<◌, Option, Some, None}
pub use Rattle.ring_core.specs.declared.stage.Stage.{Stage}
pub use Rattle.ring_core.specs.declared.stage.Stage.TheVariants.{Idle, Works, Marked, Holds, Raises}
pub use Rattle.slot_parts.specs.declared.phase.Outcome.{Outcome}
pub use Rattle.slot_parts.specs.declared.phase.Outcome.TheVariants.{Granted, Refused}
pub use Rattle.slot_parts.specs.declared.phase.GroupPhase.{GroupPhase}
pub use Rattle.slot_parts.specs.declared.phase.GroupPhase.TheVariants.{Vacant, Gathering, Closed, Placed, Ready, Told, Emptied}
pub use Rattle.slot_parts.specs.declared.task.MemberStage.{MemberStage}
pub use Rattle.slot_parts.specs.declared.task.MemberStage.TheVariants.{Closes, Waits, Places, Stores, Tells, Fills, Leaves}
pub use Rattle.slot_parts.specs.declared.task.Membership.{Membership}
pub use Rattle.slot_parts.specs.declared.task.Task.{Task}
pub use Rattle.slot_parts.specs.declared.task.Task.TheVariants.{Joined, InRing}

-- nothing in hand
abbrev pub nothing : Task
nothing = InRing None Idle

-- a member of the group at this slot
abbrev pub joined : ℕ → ℕ → ℕ → MemberStage → Task
joined slot offset size stage = Joined record { slot = slot; offset = offset; size = size; stage = stage }

-- the actor's part in a group, if it has one
abbrev pub membership : Task → Option Membership
membership (Joined m) = Some m
membership (InRing reopens stage) = None

-- the actor's stage of the ring machine; a member of a group has nothing in hand there
abbrev pub ring_stage : Task → Stage
ring_stage (Joined m) = Idle
ring_stage (InRing reopens stage) = stage

-- the slot that the actor opens again, if there is one
abbrev pub reopening : Task → Option ℕ
reopening (Joined m) = None
reopening (InRing reopens stage) = reopens

-- a unit of a member's piece is not yet filled
abbrev pub HasUnfilledPiece : ℕ → MemberStage → Type 0
HasUnfilledPiece size (Fills units) = units < size
HasUnfilledPiece size _ = ⊥

-- a member has filled its piece, or was refused
abbrev pub HasDone : ℕ → MemberStage → Type 0
HasDone size (Fills units) = units ≡ size
HasDone size Leaves = Unit {0}
HasDone size _ = ⊥

-- a member at another stage
abbrev pub at_stage : MemberStage → Membership → Task
at_stage stage m = Joined (record m { stage = stage })

-- an actor at another stage of the ring machine
abbrev pub in_ring : Stage → Task → Task
in_ring stage (Joined m) = Joined m
in_ring stage (InRing reopens old) = InRing reopens stage

-- what a leader does after it has closed its group, stored the outcome or told the group
abbrev pub next_stage : MemberStage → MemberStage
next_stage Closes = Places
next_stage Stores = Tells
next_stage Tells = Waits
next_stage stage = stage

-- what a member does that has heard this
abbrev pub stage_heard : Option Outcome → MemberStage
stage_heard None = Waits
stage_heard (Some (Granted base)) = Fills 0
stage_heard (Some (Refused tail durable)) = Leaves

-- one more unit of the piece is filled
abbrev pub stage_filled : MemberStage → MemberStage
stage_filled (Fills units) = Fills (units + 1)
stage_filled stage = stage

-- what the last to release has in hand: the group's range, which it marks, or of a refused group only the slot, which it opens
abbrev pub task_emptying : ℕ → Outcome → Task
task_emptying slot (Granted base) = InRing (Some slot) (Works base)
task_emptying slot (Refused tail durable) = InRing (Some slot) Idle
