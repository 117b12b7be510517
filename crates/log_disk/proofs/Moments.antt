-- Calls of a disk, one after the other: "every image since then is one of before or has P".
use Rattle.std.proofs.Common.{inl, inr, ⊎_elim, ◌≤◌, ℕ, List, arith}
use Rattle.log_disk.specs.Disk.{Elapses, Leaves}

module _ {D : Type 0} (moment : D → ℕ) (images_since : D → ℕ → List ℕ → Type 0) where
  pub Leaves-refl : (P : List ℕ → Type 0) (d : D) → Leaves moment images_since P d d
  Leaves-refl P d = record { later = omega arith; each = λ t c early since. inl since }

  pub Leaves-trans : (P : List ℕ → Type 0) (old mid new : D) → Leaves moment images_since P old mid → Leaves moment images_since P mid new → Leaves moment images_since P old new
  Leaves-trans P old mid new first second = record {
    later = omega (arith, first.later, second.later);
    each = λ t c early since. ⊎_elim (first.each t c early) (λ has. inr has) (second.each t c (omega (arith, early, first.later)) since);
  }

  pub Leaves-weaken : (P Q : List ℕ → Type 0) (old new : D) → ((c : List ℕ) → P c → Q c) → Leaves moment images_since P old new → Leaves moment images_since Q old new
  Leaves-weaken P Q old new weaker run = record {
    later = run.later;
    each = λ t c early since. ⊎_elim (λ was. inl was) (λ has. inr (weaker c has)) (run.each t c early since);
  }

  module _ (images : D → List ℕ → Type 0) where
    -- one call, after which each image has P
    pub Leaves-call : (P : List ℕ → Type 0) (old new : D) → Elapses moment images images_since old new → ((c : List ℕ) → images new c → P c) → Leaves moment images_since P old new
    Leaves-call P old new time has = record {
      later = time.later;
      each = λ t c early since. ⊎_elim (λ was. inl was) (λ now. inr (has c now)) (time.no_others t c early since);
    }

    module _ (counts_now : (disk : D) (t : ℕ) (c : List ℕ) → t ≤ moment disk → images disk c → images_since disk t c) where
      -- what a crash may leave now is one of those images
      pub Leaves-images_now : (P : List ℕ → Type 0) (old new : D) → ((disk : D) (c : List ℕ) → images_since disk (moment disk) c → images disk c)
          → ((c : List ℕ) → images old c → P c) → Leaves moment images_since P old new → (c : List ℕ) → images new c → P c
      Leaves-images_now P old new only_now had run c now = ⊎_elim (λ since. had c (only_now old c since)) (λ has. has) (run.each (moment old) c
          (omega arith) (counts_now new (moment old) c run.later now))
