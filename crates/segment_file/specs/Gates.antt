-- What a write behind a gate, and the write of the gate's byte, may leave.
use Rattle.std.specs.Prelude.{◌≡◌, ◌⊎◌, ℕ, ◌+◌, List, [], ◌∷◌, ◌++◌, length, take, drop}
use Rattle.log_disk.specs.Disk.{put, IsTorn, MayBeTorn}
use Rattle.segment_file.specs.File.{batch, BeginsOpen}
use Rattle.segment_file.specs.declared.layout.TheConstants.{CLOSED}

-- a batch, and the next gate, closed
abbrev pub sealed : List ℕ → List ℕ
sealed units = batch units ++ CLOSED ∷ []

-- while a body is written behind a gate, and then the gate's byte: an image with a torn body, or the whole body and a torn gate
abbrev pub Midway : ℕ → List ℕ → List ℕ → (List ℕ → Type 0) → List ℕ → Type 0
Midway at body file images c = MayBeTorn (at + 1) (length body) images c ⊎ IsTorn at 1 (put (at + 1) body file) c

-- as an image up to this place, and no open gate there
abbrev pub StaysClosed : ℕ → (List ℕ → Type 0) → List ℕ → Type 0
StaysClosed at images c = (image : List ℕ) × images image × (take at c ≡ take at image) × (BeginsOpen (drop at c) → ⊥)
