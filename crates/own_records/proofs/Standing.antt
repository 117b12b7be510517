-- Files of records at their end: what is written behind the last gate, and one record more.
use Rattle.std.proofs.Common.{◌≡◌, inl, inr, ◌∙◌, sym, ap, refl, subst, ℕ, ◌+◌, List, [], ◌∷◌, ◌++◌, length, take, drop, arith, append_assoc, length-append, take-append-drop}
use Rattle.std.specs.List.{flat_map, slice_get, AllByRecursion}
use Rattle.std.proofs.lemmas.Bool.{cases_eq}
use Rattle.std.proofs.lemmas.List.{append-nil, take_at, drop_at}
use Rattle.std.proofs.lemmas.List.Concat.{flat_map-append}
use Rattle.log_disk.specs.Disk.{put, IsOnlyImage}
use Rattle.segment_file.specs.declared.layout.TheConstants.{OPEN}
use Rattle.segment_file.specs.File.{BeginsOpen}
use Rattle.segment_file.specs.Gates.{Midway, StaysClosed}
use Rattle.segment_file.specs.StandingLog.{IsShut, IsStableGate}
use Rattle.segment_file.proofs.GateBytes.{closed-byte, behind, midway-gate_kept_or_body_whole, put-gate}
use Rattle.own_records.specs.declared.layout.TheConstants.{CLOSED}
use Rattle.own_records.specs.Kept.{AllStand, HoldsWithOrWithout}
use Rattle.own_records.specs.Records.{magic, IsText, spelled, gated, recorded, StandsAt, made}

pub length-gated : (text : List ℕ) → length (gated text) ≡ 5 + length text
unfolding spelled
length-gated text = omega arith

-- one record more stands behind its gate
pub recorded-push : (texts : List (List ℕ)) (text : List ℕ) → recorded (texts ++ text ∷ []) ≡ recorded texts ++ gated text
recorded-push texts text =
    ap (λ list. OPEN ∷ magic ++ list) (flat_map-append gated texts (text ∷ []) ∙ ap (λ bytes. flat_map gated texts ++ bytes) (append-nil (gated text)))

pub texts-more : (texts : List (List ℕ)) (text : List ℕ) → AllByRecursion IsText texts → IsText text → AllByRecursion IsText (texts ++ text ∷ [])
texts-more [] text each is = (is, tt)
texts-more (first ∷ texts) text each is = (each.0, texts-more texts text each.1 is)

-- one record more, read
pub recorded-push_between : (texts : List (List ℕ)) (text rest : List ℕ) → recorded texts ++ (gated text ++ rest) ≡ recorded (texts ++ text ∷ []) ++ rest
recorded-push_between texts text rest =
    sym (append_assoc (recorded texts) (gated text) rest) ∙ ap (λ bytes. bytes ++ rest) (sym (recorded-push texts text))

module _ (at : ℕ) (texts : List (List ℕ)) (old : List ℕ) (stands : StandsAt at texts old) where
  take_at-recorded : take at old ≡ recorded texts
  take_at-recorded = ap (take at) stands.whole ∙ take_at (recorded texts) stands.rest at (sym stands.place)

  pub drop_at-rest : drop at old ≡ stands.rest
  drop_at-rest = ap (drop at) stands.whole ∙ drop_at (recorded texts) stands.rest at (sym stands.place)

  -- the same records, and then another gate that isn't open
  pub rest_replaced : (bytes rest : List ℕ) → bytes ≡ take at old ++ rest → (BeginsOpen rest → ⊥) → StandsAt at texts bytes
  rest_replaced bytes rest whole closed =
      record { rest = rest; each = stands.each; whole = whole ∙ ap (λ front. front ++ rest) take_at-recorded; closed = closed; place = stands.place }

  -- one record more, and then a gate that isn't open
  one_more : (text : List ℕ) → IsText text → (bytes rest : List ℕ) → bytes ≡ take at old ++ (gated text ++ rest) → (BeginsOpen rest → ⊥)
      → (new : ℕ) → new ≡ at + (5 + length text) → StandsAt new (texts ++ text ∷ []) bytes
  one_more text is bytes rest whole closed new place = record {
    rest = rest;
    each = texts-more texts text stands.each is;
    whole = whole ∙ ap (λ front. front ++ (gated text ++ rest)) take_at-recorded ∙ recorded-push_between texts text rest;
    closed = closed;
    place = omega (arith, place, stands.place, ap length (recorded-push texts text), length-append (recorded texts) (gated text), length-gated text);
  }

  -- the gate is the same in each image, as there is but one
  pub stands-stable : (images : List ℕ → Type 0) → IsOnlyImage old images → IsStableGate at images
  stands-stable images settled = record {
    gate = slice_get old at;
    stable = λ c left. ap (λ bytes. slice_get bytes at) (settled c left);
    closed = λ c left opened. stands.closed (subst BeginsOpen (ap (drop at) (settled c left) ∙ drop_at-rest) opened);
  }

-- what stays closed holds the records as before
pub stays-stands : (at : ℕ) (texts : List (List ℕ)) (images : List ℕ → Type 0) → AllStand at texts images → (c : List ℕ) → StaysClosed at images c → StandsAt at texts c
stays-stands at texts images stand c stays =
    rest_replaced at texts stays.0 (stand stays.0 stays.1) c (drop at c) (sym (take-append-drop at c) ∙ ap (λ front. front ++ drop at c) stays.2) stays.3

-- a record that is written behind the gate at the end
module _ (at : ℕ) (texts : List (List ℕ)) (text file : List ℕ) (images : List ℕ → Type 0) (image : images file) (shut : IsShut at images) (is : IsText text)
    (stand : AllStand at texts images) where
  abbrev sealed : List ℕ
  sealed = spelled text ++ CLOSED ∷ []

  abbrev rest : List ℕ
  rest = behind at images shut sealed file image

  opened-stands : (new : ℕ) → new ≡ at + (5 + length text) → (bytes : List ℕ) → bytes ≡ take at file ++ OPEN ∷ (sealed ++ rest) → StandsAt new (texts ++ text ∷ []) bytes
  opened-stands new place bytes whole =
      one_more at texts file (stand file image) text is bytes (CLOSED ∷ rest)
      (whole ∙ ap (λ body. take at file ++ OPEN ∷ body) (append_assoc (spelled text) (CLOSED ∷ []) rest)) (closed-byte CLOSED rest (omega arith)) new place

  -- at each moment an image holds the records before, or with this one
  pub midway-with_or_without : (c : List ℕ) → Midway at sealed file images c → HoldsWithOrWithout texts text c
  midway-with_or_without c left = elim (midway-gate_kept_or_body_whole at images shut sealed file image c left) [
    | inl kept ↦ inl (made at (rest_replaced at texts kept.0 (stand kept.0 kept.1) c _ kept.2 (closed-byte shut.gate _ shut.shut)))
    | inr torn ↦ elim (cases_eq torn.0 OPEN) [
      | inl opened ↦ inr (made _ (opened-stands (at + (5 + length text)) refl c
          (torn.1 ∙ ap (λ byte. take at file ++ byte ∷ (sealed ++ rest)) opened)))
      | inr closed ↦ inl (made at (rest_replaced at texts file (stand file image) c _ torn.1 (closed-byte torn.0 _ closed)))
    ]
  ]

  -- after both writes each image holds it
  pub written-stands : (new : ℕ) → new ≡ at + (5 + length text) → (last : List ℕ) (lasts : List ℕ → Type 0)
      → last ≡ put at (OPEN ∷ []) (put (at + 1) sealed file) → IsOnlyImage last lasts → AllStand new (texts ++ text ∷ []) lasts
  written-stands new place last lasts written settled c left =
      opened-stands new place c (settled c left ∙ written ∙ put-gate at images shut sealed file image)
