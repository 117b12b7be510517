-- How far a group is, and what becomes of it.
use Rattle.std.specs.Prelude.{◌==◌, ℕ, ◌+◌, ◌-◌, ◌≤◌, if◌then◌else◌, Option, Some, None}
use Rattle.slot_parts.specs.Tasks.{Outcome, Granted, Refused, GroupPhase, Vacant, Gathering, Closed, Placed, Ready, Told, Emptied, MemberStage, Closes, Waits, Task, nothing, joined, task_emptying}

-- n more units have a place in the group: it is vacant or gathers, and its total stays within a quarter of the ring
abbrev pub HasPlace : ℕ → ℕ → GroupPhase → Type 0
HasPlace quarter n Vacant = n ≤ quarter
HasPlace quarter n (Gathering leader total) = total + n ≤ quarter
HasPlace quarter n _ = ⊥

-- the total of a group that is closed
abbrev pub closed_total : GroupPhase → ℕ
closed_total (Closed leader total) = total
closed_total _ = 0

-- what became of a group that is told
abbrev pub told_outcome : GroupPhase → Option Outcome
told_outcome (Told total outcome remaining) = Some outcome
told_outcome _ = None

-- the units of those who have joined so far
abbrev pub gathered : GroupPhase → ℕ
gathered (Gathering leader total) = total
gathered _ = 0

-- who joins first leads, all others wait
abbrev pub stage_joined : GroupPhase → MemberStage
stage_joined Vacant = Closes
stage_joined _ = Waits

-- what one has in hand then that joins with n units: its offset is the total before
abbrev pub task_joined : ℕ → ℕ → GroupPhase → Task
task_joined slot n phase = joined slot (gathered phase) n (stage_joined phase)

-- the phase after an actor has joined with n units
abbrev pub phase_joined : ℕ → ℕ → GroupPhase → GroupPhase
phase_joined actor n Vacant = Gathering actor n
phase_joined actor n (Gathering leader total) = Gathering leader (total + n)
phase_joined actor n phase = phase

-- the phase after the leader has closed the group, stored its outcome or told it
abbrev pub next_phase : GroupPhase → GroupPhase
next_phase (Gathering leader total) = Closed leader total
next_phase (Placed leader total outcome) = Ready leader total outcome
next_phase (Ready leader total outcome) = Told total outcome total
next_phase phase = phase

-- where the group's range begins, where one was granted
abbrev pub granted_base : Option Outcome → Option ℕ
granted_base None = None
granted_base (Some (Granted base)) = Some base
granted_base (Some (Refused tail durable)) = None

-- a member of this size releases: the last leaves the group empty, any other makes what remains less
abbrev pub phase_released : ℕ → ℕ → GroupPhase → GroupPhase
phase_released actor size (Told total outcome remaining) = if remaining == size then Emptied actor else Told total outcome (remaining - size)
phase_released actor size phase = phase

-- what it has in hand then: the last has the group's range, or of a refused group only the slot
abbrev pub task_released : ℕ → ℕ → GroupPhase → Task
task_released slot size (Told total outcome remaining) = if remaining == size then task_emptying slot outcome else nothing
task_released slot size _ = nothing

-- no more of a group that is told is released than remains
abbrev pub HasRemaining : ℕ → GroupPhase → Type 0
HasRemaining size (Told total outcome remaining) = size ≤ remaining
HasRemaining size _ = Unit {0}
