-- The disk in memory, as contracts see it, and the record that it keeps of its history.
use Rattle.std.specs.Prelude.{◌≡◌, ◌≤◌, ◌<◌, ◌⊎◌, ℕ, ◌+◌, ◌*◌, ◌^◌, List, [], ◌∷◌, length, take, drop, Option, Contains}
use Rattle.log_disk.specs.Attachment.{Attached}
use Rattle.log_disk.specs.Faults.{raised}
use Rattle.memory_disk.specs.History.{Event, file_after, Images, ImagesSince}
use Rattle.memory_disk.specs.History.Event.{Wrote, Synced}
use Rattle.memory_disk.specs.declared.memory_disk.TheConstants.{LONGEST_NAME, RECORD}
use Rattle.memory_disk.specs.declared.step.Step.{Step}
use Rattle.memory_disk.specs.declared.step.Step.TheVariants.{Write, Sync}

-- the file at first, what was done to it, the room left, which file is attached, the numbers of the calls that fail, and the counts
pub record DiskState : Type 0 where
  pub start : List ℕ
  pub history : List Event
  pub room : ℕ
  pub attached : Option Attached
  pub failing : List ℕ
  pub calls : ℕ
  pub written_count : ℕ
  pub faults : ℕ

-- what a read gives
abbrev pub file_of : DiskState → List ℕ
file_of d = file_after d.start d.history

-- what a crash may leave
abbrev pub ImagesOf : DiskState → List ℕ → Type 0
ImagesOf d = Images d.start d.history

-- how many writes and syncs the history has
abbrev pub moment_of : DiskState → ℕ
moment_of d = length d.history

-- what a crash might have left since that moment
abbrev pub ImagesSinceOf : DiskState → ℕ → List ℕ → Type 0
ImagesSinceOf d = ImagesSince d.start d.history

-- how many writes and syncs have succeeded
abbrev pub written_count_of : DiskState → ℕ
written_count_of d = d.written_count

-- a call that takes so much of the room fails next: less is left, or its number is one of those that fail
abbrev pub CallFails : DiskState → ℕ → Type 0
CallFails d cost = (d.room < cost) ⊎ Contains d.failing (raised d.calls)

-- to attach a file of this name fails next: the name is too long to be kept, or any call fails
abbrev pub AttachFails : DiskState → List ℕ → Type 0
AttachFails d name = (LONGEST_NAME < length name) ⊎ CallFails d 0

-- how many of the joined bytes are the steps'
abbrev pub total_len : List Step → ℕ
total_len [] = 0
total_len (Write at len ∷ steps) = len + total_len steps
total_len (Sync ∷ steps) = total_len steps

-- the history that steps and the joined bytes of their writes record, after an earlier one
abbrev pub recorded : List Step → List ℕ → List Event → List Event
recorded [] log earlier = earlier
recorded (Write at len ∷ steps) log earlier = recorded steps (drop len log) (Wrote at (take len log) ∷ earlier)
recorded (Sync ∷ steps) log earlier = recorded steps log (Synced ∷ earlier)

-- what the fields of a disk in memory keep
pub record IsRecord (start held log : List ℕ) (steps : List Step) (room written_count : ℕ) : Type 0 where
  pub whole : total_len steps ≡ length log
  pub read : held ≡ file_after start (recorded steps log [])
  pub longest : length held ≤ length start + length log
  pub counted : RECORD * written_count + room < 2 ^ 64
