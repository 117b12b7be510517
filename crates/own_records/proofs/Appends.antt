-- A record that is written behind the gate at the end.
use Rattle.std.proofs.Common.{◌≡◌, inl, ◌≤◌, refl, ℕ, ◌+◌, List, [], ◌∷◌, ◌++◌, length, Result, Ok, IsErrAnd, arith, length-append}
use Rattle.std.proofs.lemmas.Result.{err_from_is_err_and}
use Rattle.log_disk.specs.Disk.{put, IsOnlyImage, Leaves}
use Rattle.log_disk.specs.declared.disk.LogDisk.{Ghosts}
use Rattle.log_disk.proofs.Moments.{Leaves-refl, Leaves-weaken, Leaves-images_now}
use Rattle.segment_file.specs.Calls.{HasShutGate, WritesGated}
use Rattle.segment_file.specs.declared.layout.TheConstants.{OPEN}
use Rattle.segment_file.proofs.GateBytes.{put_open-next_gate_shut}
use Rattle.own_records.specs.declared.appending.End.{End}
use Rattle.own_records.specs.declared.layout.TheConstants.{CLOSED}
use Rattle.own_records.specs.Kept.{AllStand, Appends, HoldsWithOrWithout}
use Rattle.own_records.specs.Records.{IsText, spelled, made}
use Rattle.own_records.proofs.Standing.{length-gated, midway-with_or_without, written-stands}

-- nothing was begun
pub append-not_begun : {D F : Type 0} (g : Ghosts D) (at : ℕ) (text : List ℕ) (disk : D) (Q : F → Type 0) (answer : Result End F) → IsErrAnd answer Q
    → Appends g at text disk disk answer
append-not_begun g at text disk Q answer failed = rw (err_from_is_err_and answer failed).1 (record {
  moments = λ honest texts stand. Leaves-refl g.moment g.images_since (HoldsWithOrWithout texts text) disk;
  left = λ honest texts stand c left. inl (made at (stand c left));
  stands = λ honest texts stand. tt;
  shut = λ honest. tt;
  place = tt;
  honest = (λ honest. honest, λ honest. honest);
  attached = refl;
})

module _ {D : Type 0} (g : Ghosts D) (read_is_image : (disk : D) → g.honest disk → g.images disk (g.reads disk))
    (counts_now : (disk : D) (t : ℕ) (c : List ℕ) → t ≤ g.moment disk → g.images disk c → g.images_since disk t c)
    (only_now : (disk : D) (c : List ℕ) → g.images_since disk (g.moment disk) c → g.images disk c) (at : ℕ) (text : List ℕ) (is : IsText text)
    {T E : Type 0} (old new : D) (first : Result T E) (shut : HasShutGate g at old) (wrote : WritesGated g at (spelled text ++ CLOSED ∷ []) old new first) where
  appended-moments : g.honest old → (texts : List (List ℕ)) → AllStand at texts (g.images old) → Leaves g.moment g.images_since (HoldsWithOrWithout texts text) old new
  appended-moments honest texts stand =
      Leaves-weaken g.moment g.images_since _ _ old new
      (midway-with_or_without at texts text _ _ (read_is_image old honest) (shut honest) is stand) (wrote.moments honest)

  appended-left : g.honest old → (texts : List (List ℕ)) → AllStand at texts (g.images old) → (c : List ℕ) → g.images new c → HoldsWithOrWithout texts text c
  appended-left honest texts stand =
      Leaves-images_now g.moment g.images_since g.images counts_now (HoldsWithOrWithout texts text) old new only_now
      (λ c left. inl (made at (stand c left))) (appended-moments honest texts stand)

  pub append-failed : {F : Type 0} (Q : F → Type 0) (answer : Result End F) → IsErrAnd answer Q → Appends g at text old new answer
  append-failed Q answer failed = rw (err_from_is_err_and answer failed).1 (record {
    moments = appended-moments;
    left = appended-left;
    stands = λ honest texts stand. tt;
    shut = λ honest. tt;
    place = tt;
    honest = wrote.honest;
    attached = wrote.attached;
  })

  pub append-succeeded : (g.honest old → g.reads new ≡ put at (OPEN ∷ []) (put (at + 1) (spelled text ++ CLOSED ∷ []) (g.reads old)))
      → (g.honest old → IsOnlyImage (g.reads new) (g.images new)) → {F : Type 0} (next : ℕ) → next ≡ at + (5 + length text)
      → Appends {E = F} g at text old new (Ok (record { at = next }))
  append-succeeded written settled next place = record {
    moments = appended-moments;
    left = appended-left;
    stands = λ honest texts stand.
        written-stands at texts text _ _ (read_is_image old honest) (shut honest) is stand next place _ _ (written honest) (settled honest);
    shut = λ honest.
        put_open-next_gate_shut at _ (shut honest) _ _ (read_is_image old honest) (spelled text) _ _ next refl (written honest) (settled honest)
        (omega (arith, place, length-gated text, length-append (spelled text) (CLOSED ∷ [])));
    place = place;
    honest = wrote.honest;
    attached = wrote.attached;
  }
