-- Gates that stay closed while a closed gate is written.
use Rattle.std.proofs.Common.{◌≡◌, ◌≢◌, ◌⊎◌, inl, inr, ◌≤◌, ◌∙◌, sym, ap, refl, subst, ℕ, ◌+◌, List, [], ◌∷◌, ◌++◌, length, take, drop, Some, arith, append_assoc, take-append-drop}
use Rattle.std.specs.List.{slice_get}
use Rattle.std.proofs.lemmas.List.{length-take-le, length-drop}
use Rattle.log_disk.specs.Disk.{put, MayBeTorn, IsOnlyImage}
use Rattle.segment_file.specs.declared.layout.TheConstants.{OPEN, CLOSED}
use Rattle.segment_file.specs.declared.scan_result.Tail.{Tail}
use Rattle.segment_file.specs.File.{BeginsOpen, BeginsAsLog}
use Rattle.segment_file.specs.Gates.{StaysClosed}
use Rattle.segment_file.specs.Log.{Log}
use Rattle.segment_file.specs.StandingLog.{LogStandsAt, LogStands, IsShut, IsStableGate, LacksGate, HoldsNoneOr}
use Rattle.segment_file.proofs.Seams.{slice_get-seam, slice_get-drop}
use Rattle.segment_file.proofs.StandingLemmas.{stands-rest_replaced}

closed-short : (bytes : List ℕ) → length bytes ≤ 1 → BeginsOpen bytes → ⊥
closed-short [] short opened = opened
closed-short (byte ∷ []) short opened = opened
closed-short (byte ∷ next ∷ bytes) short opened = omega arith

-- a gate that isn't open, and would be with a byte behind it, ends the bytes
ends-short : (file image : List ℕ) → (file ≡ []) ⊎ (file ≡ OPEN ∷ []) → slice_get image 0 ≡ slice_get file 0 → (BeginsOpen image → ⊥) → length image ≤ 1
ends-short file [] lacks same closed = omega arith
ends-short file (byte ∷ []) lacks same closed = omega arith
ends-short file (byte ∷ next ∷ image) (inl none) same closed = let some : Some byte ≡ slice_get [] 0 = same ∙ ap (λ bytes. slice_get bytes 0) none in cc
ends-short file (byte ∷ next ∷ image) (inr one) same closed =
    let some : Some byte ≡ Some OPEN = same ∙ ap (λ bytes. slice_get bytes 0) one in
    let opened : byte ≡ OPEN = cc in
    absurd (closed opened)

-- a gate that is neither open nor lacking is a byte that opens nothing
ends-byte : (file : List ℕ) → ((file ≡ []) ⊎ (file ≡ OPEN ∷ []) → ⊥) → (BeginsOpen file → ⊥) → (byte : ℕ) × (slice_get file 0 ≡ Some byte) × (byte ≢ OPEN)
ends-byte [] there closed = absurd (there (inl refl))
ends-byte (byte ∷ []) there closed = (byte, refl, λ opened. there (inr (ap (λ b. b ∷ []) opened)))
ends-byte (byte ∷ next ∷ file) there closed = (byte, refl, λ opened. closed opened)

module _ (at : ℕ) (file : List ℕ) (images : List ℕ → Type 0) (image : images file) (gate : IsStableGate at images) where
  pub image-stays_closed : (c : List ℕ) → images c → StaysClosed at images c
  image-stays_closed c left = (c, left, refl, gate.closed c left)

  -- a byte that is written where a gate lacks leaves it closed, in part or whole
  pub lacks_gate-torn_stays_closed : LacksGate at file → (c : List ℕ) → MayBeTorn at 1 images c → StaysClosed at images c
  lacks_gate-torn_stays_closed lacks c torn =
      let same : slice_get (drop at torn.0) 0 ≡ slice_get (drop at file) 0 =
      slice_get-drop torn.0 at ∙ gate.stable torn.0 torn.1 ∙ sym (gate.stable file image) ∙ sym (slice_get-drop file at) in
      let ends = ends-short (drop at file) (drop at torn.0) lacks same (gate.closed torn.0 torn.1) in
      (torn.0, torn.1, torn.2.before, closed-short (drop at c) (omega (arith, ends, torn.2.no_longer, length-drop at torn.0, length-drop at c)))

  -- a gate that doesn't lack is shut
  pub stable_gate-shut : (LacksGate at file → ⊥) → (news : List ℕ → Type 0) → ((c : List ℕ) → news c → images c) → IsShut at news
  stable_gate-shut there news were =
      let found = ends-byte (drop at file) there (gate.closed file image) in
      record {
        gate = found.0;
        shut = found.2;
        stable = λ c left. gate.stable c (were c left) ∙ sym (gate.stable file image) ∙ sym (slice_get-drop file at) ∙ found.1;
      }

-- a closed gate that was written is shut
pub put-shut : (at : ℕ) (old new : List ℕ) (news : List ℕ → Type 0) → at ≤ length old → new ≡ put at (CLOSED ∷ []) old → IsOnlyImage new news → IsShut at news
put-shut at old new news within written settled =
    let place : at ≡ length (take at old) = sym (length-take-le at old within) in
    let whole : put at (CLOSED ∷ []) old ≡ take at old ++ CLOSED ∷ drop (at + 1) old = append_assoc (take at old) (CLOSED ∷ []) (drop (at + 1) old) in
    record {
      gate = CLOSED;
      shut = omega arith;
      stable = λ c left. ap (λ bytes. slice_get bytes at) (settled c left ∙ written ∙ whole) ∙ ap (slice_get (take at old ++ CLOSED ∷ drop (at + 1) old)) place
          ∙ slice_get-seam (take at old) CLOSED (drop (at + 1) old);
    }

-- what stays closed stands as before
pub stays-stands : (tail : Tail) (log : Log) (images : List ℕ → Type 0) → LogStands tail log images → (c : List ℕ) → StaysClosed tail.at images c → LogStandsAt tail log c
stays-stands tail log images stand c stays =
    stands-rest_replaced tail log stays.0 (stand stays.0 stays.1) c (drop tail.at c)
    (sym (take-append-drop tail.at c) ∙ ap (λ front. front ++ drop tail.at c) stays.2) stays.3

-- a closed first gate begins no log
pub stays-no_log : (images : List ℕ → Type 0) (c : List ℕ) → StaysClosed 0 images c → BeginsAsLog c → ⊥
stays-no_log images c stays (inl log) = stays.3 (subst BeginsOpen (sym log.1) refl)
stays-no_log images c stays (inr log) = stays.3 (subst BeginsOpen (sym log.1) refl)

pub stays-none_or : (units : List ℕ) (images : List ℕ → Type 0) (c : List ℕ) → StaysClosed 0 images c → HoldsNoneOr units c
stays-none_or units images c stays = inl (stays-no_log images c stays)
