-- The steps of a disk in memory, gone through again.
use Rattle.std.proofs.Common.{◌≡◌, ◌≤◌, inr, ◌∙◌, ap, subst, refl, ℕ, List, ◌∷◌, length, take, drop, arith}
use Rattle.std.proofs.lemmas.List.{length-drop}
use Rattle.log_disk.specs.Disk.{put, IsTorn}
use Rattle.memory_disk.specs.History.{Event, file_after, file_at_sync, IsSynced, Images, Lands}
use Rattle.memory_disk.specs.History.Event.{Wrote, Synced}
use Rattle.memory_disk.specs.MemoryDisks.{total_len, recorded}
use Rattle.memory_disk.specs.declared.step.Step.{Step}
use Rattle.memory_disk.specs.declared.step.Step.TheVariants.{Write, Sync}
use Rattle.memory_disk.proofs.Cuts.{Images-synced}

-- What a pick leaves after a history, where this number is left of its digits.
pub record IsPicked (pick : ℕ) (start : List ℕ) (history : List Event) (left : ℕ) (image : List ℕ) : Type 0 where
  pub none : pick ≡ 0 → image ≡ file_at_sync start history
  pub none_left : pick ≡ 0 → left ≡ 0
  pub whole : IsSynced history → left ≡ pick
  pub landed : Lands pick start history image

-- what is torn of a write with this number left of the pick's digits, and what is left after it
pub record IsTornBy (at : ℕ) (bytes : List ℕ) (left after : ℕ) (image torn : List ℕ) : Type 0 where
  pub range : IsTorn at (length bytes) image torn
  pub none : left ≡ 0 → torn ≡ image
  pub none_left : left ≡ 0 → after ≡ 0
  pub landed : at ≤ length image → left ≤ length bytes → torn ≡ put at (take left bytes) image

-- a history was gone through: the image is one that it leaves, and that of the pick, and the steps ahead lead on to the whole
pub record IsReplayed (pick : ℕ) (start : List ℕ) (whole : List Event) (ahead : List Step) (log : List ℕ) (digits : ℕ) (image file : List ℕ) : Type 0 where
  pub history : List Event
  pub leads_on : recorded ahead log history ≡ whole
  pub left : Images start history image
  pub picked : IsPicked pick start history digits image
  pub read : file ≡ file_after start history
  pub bytes : total_len ahead ≡ length log

module _ (pick : ℕ) (start : List ℕ) (history : List Event) (left : ℕ) (image : List ℕ) (was : IsPicked pick start history left image) where
  -- one more write
  pub IsPicked-write : (at : ℕ) (bytes : List ℕ) (after : ℕ) (torn : List ℕ) → Images start history image → IsTornBy at bytes left after image torn
      → IsPicked pick start (Wrote at bytes ∷ history) after torn
  IsPicked-write at bytes after torn images by = record {
    none = λ zero. by.none (was.none_left zero) ∙ was.none zero;
    none_left = λ zero. by.none_left (was.none_left zero);
    whole = λ synced. absurd synced;
    landed = λ synced.
        subst (λ (n : ℕ). at ≤ length (file_after start history) → n ≤ length bytes → torn ≡ put at (take n bytes) (file_after start history)) (was.whole synced)
        (subst (λ (file : List ℕ). at ≤ length file → left ≤ length bytes → torn ≡ put at (take left bytes) file) (Images-synced start history image synced images) by.landed);
  }

module _ (pick : ℕ) (start : List ℕ) (whole : List Event) (ahead : List Step) (log : List ℕ) (left : ℕ) (image file : List ℕ) where
  pub replayed-write : (at len : ℕ) (bytes rest : List ℕ) (after : ℕ) (torn put_in : List ℕ) → IsReplayed pick start whole (Write at len ∷ ahead) log left image file
      → bytes ≡ take len log → rest ≡ drop len log → IsTornBy at bytes left after image torn → put_in ≡ put at bytes file
      → IsReplayed pick start whole ahead rest after torn put_in
  replayed-write at len bytes rest after torn put_in was front back by is_put = record {
    history = Wrote at bytes ∷ was.history;
    leads_on = rw (front, back) was.leads_on;
    left = inr (image, was.left, by.range);
    picked = IsPicked-write pick start was.history left image was.picked at bytes after torn was.left by;
    read = is_put ∙ ap (put at bytes) was.read;
    bytes = rw back (omega (arith, was.bytes, length-drop len log));
  }

  pub replayed-sync : (same : List ℕ) → IsReplayed pick start whole (Sync ∷ ahead) log left image file → same ≡ file
      → IsReplayed pick start whole ahead log pick same file
  replayed-sync same was is_same = record {
    history = Synced ∷ was.history;
    leads_on = was.leads_on;
    left = is_same ∙ was.read;
    picked = record { none = λ zero. is_same ∙ was.read; none_left = λ zero. zero; whole = λ synced. refl; landed = tt };
    read = was.read;
    bytes = was.bytes;
  }
