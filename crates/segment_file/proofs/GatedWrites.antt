-- A body that is written behind a gate, and then the gate's byte: what the two writes do together.
use Rattle.std.proofs.Common.{◌≡◌, ◌∙◌, inl, inr, subst, ℕ, ◌+◌, List, [], ◌∷◌, Result, IsErrAnd, OnOk, arith}
use Rattle.std.proofs.lemmas.Result.{err_from_is_err_and}
use Rattle.log_disk.specs.Disk.{put, IsOnlyImage, IsTorn}
use Rattle.log_disk.specs.Faults.{Rose}
use Rattle.log_disk.specs.declared.disk.LogDisk.{Ghosts}
use Rattle.log_disk.proofs.Counting.{Costs-weaken, Costs-trans}
use Rattle.log_disk.proofs.Moments.{Leaves-trans, Leaves-weaken}
use Rattle.log_disk.proofs.Uses.{HasCause-same_before}
use Rattle.segment_file.specs.Calls.{WritesGated, WritesSynced}
use Rattle.segment_file.specs.declared.layout.TheConstants.{OPEN}

module _ {D T E : Type 0} (g : Ghosts D) (at : ℕ) (body : List ℕ) (old mid : D) (first : Result T E)
    (wrote : WritesSynced g (at + 1) body old mid first) where
  -- the first of them failed
  pub writes_gated-first_failed : Rose (g.faults old) (g.faults mid) → {U F : Type 0} (Q : F → Type 0) (answer : Result U F) → IsErrAnd answer Q
      → WritesGated g at body old mid answer
  writes_gated-first_failed rose Q answer is = rw (err_from_is_err_and answer is).1 (record {
    written = λ honest. tt;
    settled = λ honest. tt;
    moments = λ honest. Leaves-weaken g.moment g.images_since _ _ old mid (λ c torn. inl torn) wrote.moments;
    later = wrote.moments.later;
    honest = wrote.honest;
    attached = wrote.attached;
    count = λ honest. Costs-weaken g 2 4 2 4 old mid (omega arith) (omega arith) (wrote.count honest);
    cause = record { later = wrote.cause.later; fine = tt; failed = rose };
    length = λ honest. (wrote.torn honest).no_longer;
  })

  -- the first of them succeeded
  pub writes_gated-first_succeeded : (g.honest old → g.reads mid ≡ put (at + 1) body (g.reads old)) → (g.honest old → IsOnlyImage (g.reads mid) (g.images mid))
      → g.faults mid ≡ g.faults old → {U F : Type 0} (new : D) (second : Result U F) → WritesSynced g at (OPEN ∷ []) mid new second
      → WritesGated g at body old new second
  writes_gated-first_succeeded is settled fine new second opened = record {
    written = λ honest. subst (λ file. OnOk second (g.reads new ≡ put at (OPEN ∷ []) file)) (is honest) (opened.written (wrote.honest.0 honest));
    settled = λ honest. opened.settled (wrote.honest.0 honest);
    moments = λ honest. Leaves-trans g.moment g.images_since _ old mid new
        (Leaves-weaken g.moment g.images_since _ _ old mid (λ c torn. inl torn) wrote.moments)
        (Leaves-weaken g.moment g.images_since _ _ mid new
        (λ c torn. inr (subst (λ file. IsTorn at 1 file c) (settled honest torn.0 torn.1 ∙ is honest) torn.2)) opened.moments);
    later = omega (arith, wrote.moments.later, opened.moments.later);
    honest = (λ honest. opened.honest.0 (wrote.honest.0 honest), λ honest. wrote.honest.1 (opened.honest.1 honest));
    attached = opened.attached ∙ wrote.attached;
    count = λ honest. Costs-trans g 2 2 2 2 old mid new (wrote.count honest) (opened.count (wrote.honest.0 honest));
    cause = HasCause-same_before _ _ _ second fine opened.cause;
    length = λ honest. omega (arith, (wrote.torn honest).no_longer, (opened.torn (wrote.honest.0 honest)).no_longer);
  }
