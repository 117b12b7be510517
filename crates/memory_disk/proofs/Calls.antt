-- One more write or sync in the history of a disk in memory.
use Rattle.std.proofs.Common.{◌≡◌, ◌≤◌, ⊎_elim, sym, subst, ℕ, List, ◌∷◌, length}
use Rattle.log_disk.specs.Disk.{IsTorn, MayBeTorn}
use Rattle.memory_disk.specs.Calls.{Tears}
use Rattle.memory_disk.specs.History.Event.{Wrote, Synced}
use Rattle.memory_disk.specs.Laws.{file-is-image}
use Rattle.memory_disk.specs.MemoryDisks.{DiskState, file_of, ImagesOf}
use Rattle.log_disk.proofs.Torn.{IsTorn-put, IsTorn-widen}

module _ (old new : DiskState) (start_is : new.start ≡ old.start) where
  module _ (at n : ℕ) (bytes : List ℕ) (history_is : new.history ≡ Wrote at bytes ∷ old.history) (within : at ≤ length (file_of old))
      (shorter : length bytes ≤ n) where
    -- what is read after a write of these bytes, or of more
    file-write : IsTorn at n (file_of old) (file_of new)
    file-write = rw (start_is, history_is) (IsTorn-put at n bytes (file_of old) within shorter)

    -- what a crash may leave after it
    images-write : (c : List ℕ) → ImagesOf new c → MayBeTorn at n (ImagesOf old) c
    images-write = rw (start_is, history_is) (λ c image. ⊎_elim
        (λ whole. (
          file_of old,
          file-is-image old.start old.history,
          subst (IsTorn at n (file_of old)) (sym whole) (IsTorn-put at n bytes (file_of old) within shorter),
        ))
        (λ torn. (torn.0, torn.1, IsTorn-widen at (length bytes) n torn.0 c shorter torn.2))
        image)

    -- both
    pub tears-write : Tears at n old new
    tears-write = record { torn = file-write; images = images-write }

  -- what a crash may leave after a sync
  pub images-sync : new.history ≡ Synced ∷ old.history → (c : List ℕ) → ImagesOf new c → ImagesOf old c
  images-sync history_is = rw (start_is, history_is) (λ c image. subst (ImagesOf old) (sym image) (file-is-image old.start old.history))
