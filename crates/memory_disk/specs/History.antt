-- What was done to a disk in memory, and what it leaves. A history lists the writes and syncs, the newest first.
use Rattle.std.specs.Prelude.{◌≡◌, ◌≤◌, ◌⊎◌, ⊤, ℕ, List, [], ◌∷◌, length, take}
use Rattle.log_disk.specs.Disk.{put, MayBeTorn}

-- a write of bytes at an offset, or a sync that succeeded
pub data Event : Type 0 where
  Wrote : ℕ → List ℕ → Event
  Synced : Event

-- what a read gives, where the file was `start` at first
abbrev pub file_after : List ℕ → List Event → List ℕ
file_after start [] = start
file_after start (Wrote at bytes ∷ earlier) = put at bytes (file_after start earlier)
file_after start (Synced ∷ earlier) = file_after start earlier

-- the file as it was at the last sync, or at first
abbrev pub file_at_sync : List ℕ → List Event → List ℕ
file_at_sync start [] = start
file_at_sync start (Wrote at bytes ∷ earlier) = file_at_sync start earlier
file_at_sync start (Synced ∷ earlier) = file_after start earlier

-- nothing was written since the last sync
abbrev pub IsSynced : List Event → Type 0
IsSynced [] = ⊤
IsSynced (Wrote at bytes ∷ earlier) = ⊥
IsSynced (Synced ∷ earlier) = ⊤

-- where one write alone stands behind the last sync, its first `pick` bytes landed, if it has so many
abbrev pub Lands : ℕ → List ℕ → List Event → List ℕ → Type 0
Lands pick start [] c = ⊤
Lands pick start (Wrote at bytes ∷ earlier) c =
    IsSynced earlier → at ≤ length (file_after start earlier) → pick ≤ length bytes → c ≡ put at (take pick bytes) (file_after start earlier)
Lands pick start (Synced ∷ earlier) c = ⊤

-- what a crash may leave: after a write what is read, or an earlier image torn by it; after a sync what is read
abbrev pub Images : List ℕ → List Event → List ℕ → Type 0
Images start [] c = c ≡ start
Images start (Wrote at bytes ∷ earlier) c = (c ≡ put at bytes (file_after start earlier)) ⊎ MayBeTorn at (length bytes) (Images start earlier) c
Images start (Synced ∷ earlier) c = c ≡ file_after start earlier

-- what a crash might have left since the history had this length
abbrev pub ImagesSince : List ℕ → List Event → ℕ → List ℕ → Type 0
ImagesSince start [] t c = c ≡ start
ImagesSince start (event ∷ earlier) t c = Images start (event ∷ earlier) c ⊎ (t ≤ length earlier) × ImagesSince start earlier t c
