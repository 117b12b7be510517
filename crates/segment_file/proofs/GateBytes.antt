-- A body that is written behind a shut gate, and then the gate's byte.
use Rattle.std.proofs.Common.{◌≡◌, ◌≢◌, ◌⊎◌, inl, inr, ◌≤◌, ◌∙◌, sym, ap, subst, ℕ, ◌+◌, List, [], ◌∷◌, ◌++◌, length, take, drop, get_or, arith, append_assoc, length-append}
use Rattle.std.specs.List.{slice_get}
use Rattle.std.proofs.lemmas.List.{length-take-le}
use Rattle.std.proofs.lemmas.Option.{slice_get_within}
use Rattle.log_disk.specs.Disk.{put, IsTorn, IsOnlyImage}
use Rattle.segment_file.specs.declared.layout.TheConstants.{OPEN, CLOSED}
use Rattle.segment_file.specs.File.{BeginsOpen}
use Rattle.segment_file.specs.Gates.{Midway}
use Rattle.segment_file.specs.StandingLog.{IsShut}
use Rattle.segment_file.proofs.Seams.{slice_get-seam, slice_get-split, torn-front_kept, torn_byte-front_and_rest_kept, put-behind}

-- a byte other than 0x4F opens no gate
pub closed-byte : (byte : ℕ) (rest : List ℕ) → byte ≢ OPEN → BeginsOpen (byte ∷ rest) → ⊥
closed-byte byte [] shut opened = opened
closed-byte byte (next ∷ rest) shut opened = shut opened

module _ (at : ℕ) (images : List ℕ → Type 0) (shut : IsShut at images) where
  pub shut-within : (file : List ℕ) → images file → at + 1 ≤ length file
  shut-within file image = omega (arith, slice_get_within file at shut.gate (shut.stable file image))

  length-front : (file : List ℕ) → images file → at ≡ length (take at file)
  length-front file image = sym (length-take-le at file (omega (arith, shut-within file image)))

  -- a torn write behind the gate leaves it as it was
  kept : (image c : List ℕ) (n : ℕ) → images image → IsTorn (at + 1) n image c → c ≡ take at image ++ shut.gate ∷ drop (at + 1) c
  kept image c n left torn =
      let front = take at image ++ shut.gate ∷ [] in
      let split : image ≡ front ++ drop (at + 1) image = slice_get-split image at shut.gate (shut.stable image left) ∙ sym (append_assoc (take at image) (shut.gate ∷ []) (drop (at + 1) image)) in
      let place : at + 1 ≡ length front = omega (arith, length-front image left, length-append (take at image) (shut.gate ∷ [])) in
      torn-front_kept (at + 1) front place n (drop (at + 1) image) c (subst (λ old. IsTorn (at + 1) n old c) split torn)
      ∙ append_assoc (take at image) (shut.gate ∷ []) (drop (at + 1) c)

  module _ (body file : List ℕ) (image : images file) where
    -- what follows the body
    abbrev pub behind : List ℕ
    behind = drop (length body) (drop (at + 1) file)

    pub put-body : put (at + 1) body file ≡ take at file ++ shut.gate ∷ (body ++ behind)
    put-body =
        let front = take at file ++ shut.gate ∷ [] in
        let split : file ≡ front ++ drop (at + 1) file = slice_get-split file at shut.gate (shut.stable file image) ∙ sym (append_assoc (take at file) (shut.gate ∷ []) (drop (at + 1) file)) in
        let place : at + 1 ≡ length front = omega (arith, length-front file image, length-append (take at file) (shut.gate ∷ [])) in
        ap (put (at + 1) body) split ∙ put-behind (at + 1) front place body (drop (at + 1) file) ∙ append_assoc (take at file) (shut.gate ∷ []) (body ++ behind)

    -- the gate is as it was, or the whole body stands behind it
    pub midway-gate_kept_or_body_whole : (c : List ℕ) → Midway at body file images c
        → ((old : List ℕ) × images old × (c ≡ take at old ++ shut.gate ∷ drop (at + 1) c)) ⊎ ((byte : ℕ) × (c ≡ take at file ++ byte ∷ (body ++ behind)))
    midway-gate_kept_or_body_whole c (inl torn) = inl (torn.0, torn.1, kept torn.0 c (length body) torn.1 torn.2)
    midway-gate_kept_or_body_whole c (inr torn) = inr (
      get_or c at 0,
      torn_byte-front_and_rest_kept at (take at file) (length-front file image)
          shut.gate (body ++ behind) c (subst (λ old. IsTorn at 1 old c) put-body torn),
    )

    -- the whole body behind the open gate
    pub put-gate : put at (OPEN ∷ []) (put (at + 1) body file) ≡ take at file ++ OPEN ∷ (body ++ behind)
    put-gate = ap (put at (OPEN ∷ [])) put-body ∙ put-behind at (take at file) (length-front file image) (OPEN ∷ []) (shut.gate ∷ (body ++ behind))

    -- the last byte of the body is the next gate
    pub put_open-next_gate_shut : (front new : List ℕ) (news : List ℕ → Type 0) (next : ℕ) → body ≡ front ++ CLOSED ∷ [] → new ≡ put at (OPEN ∷ []) (put (at + 1) body file)
        → IsOnlyImage new news → next ≡ at + length body → IsShut next news
    put_open-next_gate_shut front new news next body_is written settled place = record {
      gate = CLOSED;
      shut = omega arith;
      stable = λ c left. ap (λ bytes. slice_get bytes next) (settled c left ∙ whole) ∙ ap (slice_get (before ++ CLOSED ∷ behind)) there ∙ slice_get-seam before CLOSED behind;
    }
      where
        before : List ℕ
        before = take at file ++ OPEN ∷ front

        whole : new ≡ before ++ CLOSED ∷ behind
        whole = written ∙ put-gate ∙ ap (λ bytes. take at file ++ OPEN ∷ (bytes ++ behind)) body_is
            ∙ ap (λ bytes. take at file ++ OPEN ∷ bytes) (append_assoc front (CLOSED ∷ []) behind) ∙ sym (append_assoc (take at file) (OPEN ∷ front) (CLOSED ∷ behind))

        there : next ≡ length before
        there = omega (arith, place, ap length body_is, length-append front (CLOSED ∷ []), length-append (take at file) (OPEN ∷ front), length-front file image)
