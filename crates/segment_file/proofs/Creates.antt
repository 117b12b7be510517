-- A log that is made where none is: its bytes are written behind the closed first gate, and then the gate is opened.
use Rattle.std.proofs.Common.{◌≡◌, ◌≢◌, ◌⊎◌, inl, inr, ⊎_elim, ◌∙◌, sym, ap, subst, ℕ, ◌+◌, ◌*◌, List, [], ◌∷◌, ◌++◌, length, get_or, arith, append_assoc}
use Rattle.std.proofs.lemmas.Bool.{cases_eq}
use Rattle.log_disk.specs.Disk.{put, IsOnlyImage}
use Rattle.segment_file.specs.declared.layout.TheConstants.{OPEN, CLOSED}
use Rattle.segment_file.specs.declared.scan_result.Tail.{Tail}
use Rattle.segment_file.specs.File.{magic, batch, IsCountedBatch, BeginsAsLog}
use Rattle.segment_file.specs.Gates.{sealed, Midway}
use Rattle.segment_file.specs.StandingLog.{tail_at, StandsAt, AllStand, IsShut, HoldsNoneOr}
use Rattle.segment_file.proofs.GateBytes.{closed-byte, behind, midway-gate_kept_or_body_whole, put-gate}
use Rattle.segment_file.proofs.StandingLemmas.{StandsAt-HoldsUnits, stands-first}

no-log : (byte : ℕ) (rest : List ℕ) → byte ≢ OPEN → BeginsAsLog (byte ∷ rest) → ⊥
no-log byte rest closed (inl log) = closed (ap (λ bytes. get_or bytes 0 0) log.1)
no-log byte rest closed (inr log) = closed (ap (λ bytes. get_or bytes 0 0) log.1)

-- a body behind the first gate, which makes a file with P once the gate is open
module _ (body file : List ℕ) (images : List ℕ → Type 0) (image : images file) (shut : IsShut 0 images) (P : List ℕ → Type 0)
    (opens : (rest : List ℕ) → P (OPEN ∷ body ++ rest)) where
  abbrev rest : List ℕ
  rest = behind 0 images shut body file image

  -- at each moment an image is no log, or has P
  pub midway-no_log_or_P : (c : List ℕ) → Midway 0 body file images c → (BeginsAsLog c → ⊥) ⊎ P c
  midway-no_log_or_P c left = elim (midway-gate_kept_or_body_whole 0 images shut body file image c left) [
    | inl kept ↦ inl (λ log. no-log shut.gate _ shut.shut (subst BeginsAsLog kept.2 log))
    | inr torn ↦ elim (cases_eq torn.0 OPEN) [
      | inl opened ↦ inr (subst P (sym (torn.1 ∙ ap (λ byte. byte ∷ body ++ rest) opened)) (opens rest))
      | inr closed ↦ inl (λ log. no-log torn.0 _ closed (subst BeginsAsLog torn.1 log))
    ]
  ]

  -- after both writes each image has it
  pub put_open-all : (last : List ℕ) (lasts : List ℕ → Type 0) → last ≡ put 0 (OPEN ∷ []) (put 1 body file) → IsOnlyImage last lasts
      → (c : List ℕ) → lasts c → P c
  put_open-all last lasts written settled c left = subst P (sym (settled c left ∙ written ∙ put-gate 0 images shut body file image)) (opens rest)

-- a first batch behind the magic bytes
opens-first : (units : List ℕ) → IsCountedBatch units → (tail : Tail) → tail.at ≡ 12 + 8 * length units → tail.next ≡ length units
    → (rest : List ℕ) → StandsAt tail units (OPEN ∷ (magic ++ sealed units) ++ rest)
opens-first units counted tail at next rest =
    stands-first units counted tail at next _ (CLOSED ∷ rest) (ap (λ list. OPEN ∷ magic ++ list) (append_assoc (batch units) (CLOSED ∷ []) rest))
    (closed-byte CLOSED rest (omega arith))

module _ (units file : List ℕ) (images : List ℕ → Type 0) (image : images file) (shut : IsShut 0 images) (counted : IsCountedBatch units) where
  -- at each moment an image is no log, or holds the whole batch
  pub midway-holds_none_or : (c : List ℕ) → Midway 0 (magic ++ sealed units) file images c → HoldsNoneOr units c
  midway-holds_none_or c left =
      let tail = tail_at (12 + 8 * length units) (length units) in
      ⊎_elim (λ none. inl none) (λ stands. inr (StandsAt-HoldsUnits tail units c stands))
      (midway-no_log_or_P (magic ++ sealed units) file images image shut (StandsAt tail units) (opens-first units counted tail (omega arith) (omega arith)) c left)

  -- after both writes each image holds it
  pub put_open-first_batch_stands : (tail : Tail) → tail.at ≡ 12 + 8 * length units → tail.next ≡ length units → (last : List ℕ) (lasts : List ℕ → Type 0)
      → last ≡ put 0 (OPEN ∷ []) (put 1 (magic ++ sealed units) file) → IsOnlyImage last lasts → AllStand tail units lasts
  put_open-first_batch_stands tail at next = put_open-all (magic ++ sealed units) file images image shut (StandsAt tail units) (opens-first units counted tail at next)
