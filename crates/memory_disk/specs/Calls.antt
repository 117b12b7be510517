-- What a call of the disk in memory does, and what is made of one.
use Rattle.std.specs.Prelude.{◌≡◌, ◌≤◌, ◌↔◌, ⊤, ℕ, ◌+◌, List, [], length, None, Result, IsErr}
use Rattle.log_disk.specs.Disk.{Elapses, IsOnlyImage, IsTorn, Keeps, MayBeTorn}
use Rattle.log_disk.specs.Faults.{HasCause, raised}
use Rattle.memory_disk.specs.History.{file_at_sync, Images, Lands}
use Rattle.memory_disk.specs.MemoryDisks.{DiskState, file_of, ImagesOf, ImagesSinceOf, moment_of, recorded, written_count_of}
use Rattle.memory_disk.specs.declared.step.Step.{Step}

-- a call is counted, and a fault where it failed; it fails exactly where `Fails` holds
pub record CountsCall {T E : Type 0} (Fails : Type 0) (old new : DiskState) (result : Result T E) : Type 0 where
  pub fails : IsErr result ↔ Fails
  pub cause : HasCause old.faults new.faults result
  pub time : Elapses moment_of ImagesOf ImagesSinceOf old new
  pub failing : new.failing ≡ old.failing
  pub calls : new.calls ≡ raised old.calls

-- a call that only looks leaves the file, its images, the count of writes and the room as they were
pub record KeepsDisk (old new : DiskState) : Type 0 where
  pub keeps : Keeps (λ _. ⊤) file_of ImagesOf written_count_of old new
  pub room : new.room ≡ old.room

-- a write of n bytes was cut short at most, in what is read and in what a crash may leave
pub record Tears (at n : ℕ) (old new : DiskState) : Type 0 where
  pub torn : IsTorn at n (file_of old) (file_of new)
  pub images : (c : List ℕ) → ImagesOf new c → MayBeTorn at n (ImagesOf old) c

-- a disk that was made of these bytes, which are stable, with so much room; the calls with these numbers fail
pub record IsFresh (bytes : List ℕ) (most : ℕ) (numbers : List ℕ) (disk : DiskState) : Type 0 where
  pub settled : IsOnlyImage bytes (ImagesOf disk)
  pub reads : file_of disk ≡ bytes
  pub start : disk.start ≡ bytes
  pub history : disk.history ≡ []
  pub room : disk.room ≡ most
  pub attached : disk.attached ≡ None
  pub failing : disk.failing ≡ numbers
  pub calls : disk.calls ≡ 0
  pub written : disk.written_count ≡ 0
  pub faults : disk.faults ≡ 0

-- what a crash by this pick leaves of a disk: one of the images, settled, and no file attached
pub record IsLeftByCrash (pick : ℕ) (disk left : DiskState) : Type 0 where
  pub image : ImagesOf disk (file_of left)
  pub settled : IsOnlyImage (file_of left) (ImagesOf left)
  pub none : pick ≡ 0 → file_of left ≡ file_at_sync disk.start disk.history
  pub landed : Lands pick disk.start disk.history (file_of left)
  pub history : left.history ≡ []
  pub room : left.room ≡ disk.room
  pub attached : left.attached ≡ None
  pub failing : left.failing ≡ disk.failing
  pub calls : left.calls ≡ disk.calls
  pub count : left.written_count ≡ disk.written_count
  pub faults : left.faults ≡ disk.faults

-- what a crash by this pick leaves of a file, after steps whose writes are joined in the log; the capacities don't fall
pub record Replays (pick : ℕ) (steps : List Step) (log old new : List ℕ) (room_old room_new file_room_old file_room_new : ℕ) : Type 0 where
  pub image : Images old (recorded steps log []) new
  pub none : pick ≡ 0 → new ≡ file_at_sync old (recorded steps log [])
  pub landed : Lands pick old (recorded steps log []) new
  pub length : length new ≤ length old + length log
  pub image_capacity : room_old ≤ room_new
  pub file_capacity : file_room_old ≤ file_room_new
