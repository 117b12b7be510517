-- A file of records that is made: its first gate, the magic bytes behind it, and the next gate.
use Rattle.std.proofs.Common.{◌≡◌, inl, inr, ◌≤◌, ◌∙◌, ap, refl, subst, ℕ, List, [], ◌∷◌, ◌++◌, length, drop, arith}
use Rattle.std.specs.List.{slice_get}
use Rattle.std.proofs.lemmas.Bool.{cases_eq}
use Rattle.std.proofs.lemmas.List.{length-drop}
use Rattle.log_disk.specs.Disk.{put, IsOnlyImage}
use Rattle.segment_file.specs.declared.layout.TheConstants.{OPEN}
use Rattle.segment_file.specs.File.{BeginsOpen}
use Rattle.segment_file.specs.Gates.{Midway}
use Rattle.segment_file.specs.StandingLog.{IsShut}
use Rattle.segment_file.proofs.GateBytes.{closed-byte, behind, midway-gate_kept_or_body_whole, put-gate, put-body}
use Rattle.own_records.specs.declared.layout.TheConstants.{CLOSED}
use Rattle.own_records.specs.Kept.{AllStand}
use Rattle.own_records.specs.Records.{magic, IsFresh, StandsAt, Holds, made, unmade}

-- the first byte of a fresh file of two bytes or more opens nothing
pub fresh-shut : (file : List ℕ) (images : List ℕ → Type 0) → IsFresh file → 2 ≤ length file → IsOnlyImage file images → IsShut 0 images
fresh-shut [] images fresh long settled = absurd (omega arith)
fresh-shut (byte ∷ []) images fresh long settled = absurd (omega arith)
fresh-shut (byte ∷ next ∷ file) images fresh long settled = record {
  gate = byte;
  shut = λ opened. fresh.closed opened;
  stable = λ c left. ap (λ bytes. slice_get bytes 0) (settled c left);
}

module _ (file : List ℕ) (images : List ℕ → Type 0) (image : images file) (shut : IsShut 0 images) (fresh : (c : List ℕ) → images c → IsFresh c) where
  abbrev body : List ℕ
  body = magic ++ CLOSED ∷ []

  abbrev rest : List ℕ
  rest = behind 0 images shut body file image

  opened-stands : (bytes : List ℕ) → bytes ≡ OPEN ∷ (body ++ rest) → StandsAt 8 [] bytes
  opened-stands bytes whole = record { rest = CLOSED ∷ rest; each = tt; whole = whole; closed = closed-byte CLOSED rest (omega arith); place = refl }

  midway-few : (c : List ℕ) → Midway 0 body file images c → length c ≤ 9
  midway-few c (inl torn) = omega (arith, torn.2.no_longer, (fresh torn.0 torn.1).few)
  midway-few c (inr torn) =
      omega (arith, torn.no_longer, (fresh file image).few, ap length (put-body 0 images shut body file image), length-drop 8 (drop 1 file), length-drop 1 file)

  -- at each moment an image holds no record
  pub midway-no_record : (c : List ℕ) → Midway 0 body file images c → Holds [] c
  midway-no_record c left = elim (midway-gate_kept_or_body_whole 0 images shut body file image c left) [
    | inl kept ↦ unmade refl (record { few = midway-few c left; closed = λ opened. closed-byte shut.gate _ shut.shut (subst BeginsOpen kept.2 opened) })
    | inr torn ↦ elim (cases_eq torn.0 OPEN) [
      | inl opened ↦ made 8 (opened-stands c (torn.1 ∙ ap (λ byte. byte ∷ body ++ rest) opened))
      | inr closed ↦ unmade refl (record { few = midway-few c left; closed = λ opened. closed-byte torn.0 (body ++ rest) closed (subst BeginsOpen torn.1 opened) })
    ]
  ]

  pub written-no_record : (last : List ℕ) (lasts : List ℕ → Type 0) → last ≡ put 0 (OPEN ∷ []) (put 1 body file) → IsOnlyImage last lasts → AllStand 8 [] lasts
  written-no_record last lasts written settled c left = opened-stands c (settled c left ∙ written ∙ put-gate 0 images shut body file image)
