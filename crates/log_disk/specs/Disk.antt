-- What the calls of a disk do to its file and to what a crash may leave. An image is a list of bytes that a crash may leave.
use Rattle.std.specs.Prelude.{◌≡◌, ◌⊎◌, ◌↔◌, ℕ, ◌+◌, ◌≤◌, max, List, ◌++◌, length, take, drop, Result, MatchResult}

-- the bytes with these in place of as many from this offset on; at the end, where the bytes end before it
abbrev pub put : ℕ → List ℕ → List ℕ → List ℕ
put at bytes old = take at old ++ bytes ++ drop (at + length bytes) old

-- a write of n bytes was cut short: the same bytes before and behind its range, any in it, and a length from the old one to its end;
-- an image that ends before the range stays as it is
pub record IsTorn (at n : ℕ) (old new : List ℕ) : Type 0 where
  pub before : take at new ≡ take at old
  pub after : drop (at + n) new ≡ drop (at + n) old
  pub no_shorter : length old ≤ length new
  pub no_longer : length new ≤ max (length old) (at + n)

-- one of these images, torn by a write of n bytes
abbrev pub MayBeTorn : ℕ → ℕ → (List ℕ → Type 0) → List ℕ → Type 0
MayBeTorn at n images c = (image : List ℕ) × images image × IsTorn at n image c

-- a crash leaves this file and nothing else: it is the only image
abbrev pub IsOnlyImage : List ℕ → (List ℕ → Type 0) → Type 0
IsOnlyImage file images = (c : List ℕ) → images c → c ≡ file

-- Time goes on: the images since an earlier moment stay, those of now join them and no others, and while the moment stands no image is new.
pub record Elapses {D : Type 0} (moment : D → ℕ) (images : D → List ℕ → Type 0) (images_since : D → ℕ → List ℕ → Type 0) (old new : D) : Type 0 where
  pub later : moment old ≤ moment new
  pub stay : (t : ℕ) (c : List ℕ) → t ≤ moment old → images_since old t c → images_since new t c
  pub no_others : (t : ℕ) (c : List ℕ) → t ≤ moment old → images_since new t c → images_since old t c ⊎ images new c
  pub still : moment new ≡ moment old → (c : List ℕ) → images new c → images old c

-- a call that only reads changes neither the file, nor what a crash may leave, nor the count of writes
pub record Keeps {D : Type 0} (honest : D → Type 0) (reads : D → List ℕ) (images : D → List ℕ → Type 0) (written_count : D → ℕ) (old new : D) : Type 0 where
  pub file : honest old → reads new ≡ reads old
  pub image : (c : List ℕ) → images new c ↔ images old c
  pub count : honest old → written_count new ≡ written_count old

-- each image of a moment from old to new has P, or might have been left before
pub record Leaves {D : Type 0} (moment : D → ℕ) (images_since : D → ℕ → List ℕ → Type 0) (P : List ℕ → Type 0) (old new : D) : Type 0 where
  pub later : moment old ≤ moment new
  pub each : (t : ℕ) (c : List ℕ) → t ≤ moment old → images_since new t c → images_since old t c ⊎ P c

-- one more where the call succeeded, else unchanged
abbrev pub CountsOne : {T E : Type 0} → ℕ → ℕ → Result T E → Type 0
CountsOne before now result = MatchResult result (λ _. now ≡ before + 1) (λ _. now ≡ before)
