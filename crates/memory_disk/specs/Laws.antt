-- The laws of a disk in memory.
use Rattle.std.proofs.Common.{◌≤◌, refl, inl, ⊎_elim, ℕ, List, [], ◌∷◌, length}
use Rattle.std.proofs.Math.Nat.{not-suc-le_self}
use Rattle.memory_disk.specs.History.{Event, file_after, Images, ImagesSince}
use Rattle.memory_disk.specs.History.Event.{Wrote, Synced}

-- what is read is one of the images
pub file-is-image : (start : List ℕ) (history : List Event) → Images start history (file_after start history)
file-is-image start [] = refl
file-is-image start (Wrote at bytes ∷ earlier) = inl refl
file-is-image start (Synced ∷ earlier) = refl

-- the images of now are among those since an earlier moment
pub images-count : (start : List ℕ) (history : List Event) (t : ℕ) (c : List ℕ) → t ≤ length history → Images start history c → ImagesSince start history t c
images-count start [] t c early image = image
images-count start (event ∷ earlier) t c early image = inl image

-- since now there are no others
pub images-only : (start : List ℕ) (history : List Event) (c : List ℕ) → ImagesSince start history (length history) c → Images start history c
images-only start [] c since = since
images-only start (event ∷ earlier) c since = ⊎_elim (λ image. image) (λ past. absurd (not-suc-le_self (length earlier) past.0)) since
