-- Heads and frames that stand at the same place are the same.
use Rattle.std.proofs.Common.{◌≡◌, ◌<◌, ◌∙◌, sym, ap, subst, refl, ℕ, ◌+◌, ◌*◌, ◌^◌, List, [], ◌∷◌, ◌++◌, length, take, drop, arith, length-append, append_assoc, All}
use Rattle.std.specs.List.{flat_map, AllByRecursion}
use Rattle.std.specs.Int.{w32, to_be_bytes, from_be_bytes}
use Rattle.std.proofs.lemmas.List.Elements.{All-nil, All-append, All-drop, All-from_recursion}
use Rattle.std.proofs.lemmas.Nat.{from_be_bytes-to_be_bytes_4, from_be_bytes-to_be_bytes_8}
use Rattle.std.proofs.lemmas.List.{append_cancel_left}
use Rattle.lsn_space.specs.Unit.{unit_bytes, unit_value}
use Rattle.lsn_space.proofs.UnitLemmas.{length-unit_bytes}
use Rattle.log_record.specs.declared.rec.Rec.{Rec}
use Rattle.log_record.specs.LogList.{units_of, end_of}
use Rattle.log_record.specs.Spelling.{spelling, IsSpellable}
use Rattle.log_record.proofs.BoundLemmas.{spelling-all_units}
use Rattle.log_record.proofs.SpellingLemmas.{units_of-injective}
use Rattle.ship_stream.specs.Stream.{head_bytes, counted_bytes, frame_bytes, end_bytes, IsFrame}

-- ---- numbers

pub same_number : (m n : ℕ) (x y : List ℕ) → m < 2 ^ 32 → n < 2 ^ 32 → to_be_bytes w32 m ++ x ≡ to_be_bytes w32 n ++ y → (m ≡ n) × (x ≡ y)
same_number m n x y m_fits n_fits same =
    let front : to_be_bytes w32 m ≡ to_be_bytes w32 n = ap (take 4) same in
    (sym (from_be_bytes-to_be_bytes_4 m m_fits) ∙ ap (from_be_bytes w32) front ∙ from_be_bytes-to_be_bytes_4 n n_fits, ap (drop 4) same)

pub same_head : (a b : ℕ) (x y : List ℕ) → a < 2 ^ 32 → b < 2 ^ 32 → head_bytes a ++ x ≡ head_bytes b ++ y → (a ≡ b) × (x ≡ y)
unfolding head_bytes
same_head a b x y a_fits b_fits same = same_number a b x y a_fits b_fits (ap (drop 7) same)

pub length-head : (a : ℕ) (x : List ℕ) → length (head_bytes a ++ x) ≡ 11 + length x
unfolding head_bytes
length-head a x = omega arith

-- ---- frames

pub length-frame : (records : List Rec) (x : List ℕ) → length (frame_bytes records ++ x) ≡ 4 + 8 * end_of records + length x
unfolding counted_bytes
length-frame records x = omega (arith, length-append (flat_map unit_bytes (units_of records)) x, length-unit_bytes (units_of records))

-- units that stand at the same place are the same
pub same_units : (us vs x y : List ℕ) → All (λ u. u < 2 ^ 64) us → All (λ v. v < 2 ^ 64) vs → length us ≡ length vs
    → flat_map unit_bytes us ++ x ≡ flat_map unit_bytes vs ++ y → us ≡ vs
same_units [] [] x y is_us is_vs long same = refl
same_units [] (v ∷ vs) x y is_us is_vs long same = absurd (omega arith)
same_units (u ∷ us) [] x y is_us is_vs long same = absurd (omega arith)
same_units (u ∷ us) (v ∷ vs) x y is_us is_vs long same =
    let front : unit_bytes u ≡ unit_bytes v = ap (take 8) same in
    let back : flat_map unit_bytes us ++ x ≡ flat_map unit_bytes vs ++ y = ap (drop 8) same in
    let head : u ≡ v = sym (from_be_bytes-to_be_bytes_8 u (is_us 0 u (omega arith))) ∙ ap unit_value front
    ∙ from_be_bytes-to_be_bytes_8 v (is_vs 0 v (omega arith)) in
    let tail = same_units us vs x y (All-drop (λ n. n < 2 ^ 64) 1 (u ∷ us) is_us) (All-drop (λ n. n < 2 ^ 64) 1 (v ∷ vs) is_vs)
    (omega arith) back in
    rw (head, tail) refl

pub units_of-below_64_bits : (records : List Rec) → AllByRecursion IsSpellable records → All (λ u. u < 2 ^ 64) (units_of records)
units_of-below_64_bits [] each = All-nil (λ u. u < 2 ^ 64)
units_of-below_64_bits (rec ∷ records) each =
    All-append (λ u. u < 2 ^ 64) (spelling rec) (units_of records) (spelling-all_units rec each.0) (units_of-below_64_bits records each.1)

-- frames that stand at the same place are the same
pub same_frame : (rs ss : List Rec) (x y : List ℕ) → IsFrame rs → IsFrame ss → frame_bytes rs ++ x ≡ frame_bytes ss ++ y
    → (rs ≡ ss) × (x ≡ y)
unfolding counted_bytes
same_frame rs ss x y is_rs is_ss same =
    let number = same_number (end_of rs) (end_of ss) (flat_map unit_bytes (units_of rs) ++ x) (flat_map unit_bytes (units_of ss) ++ y)
    (omega (arith, is_rs.most)) (omega (arith, is_ss.most)) same in
    let units =
    same_units (units_of rs) (units_of ss) x y (units_of-below_64_bits rs is_rs.spellable) (units_of-below_64_bits ss is_ss.spellable) number.0 number.1 in (
      units_of-injective rs ss (All-from_recursion IsSpellable rs is_rs.spellable) (All-from_recursion IsSpellable ss is_ss.spellable)
          units,
      append_cancel_left (flat_map unit_bytes (units_of ss)) x y
          (subst (λ us. flat_map unit_bytes us ++ x ≡ flat_map unit_bytes (units_of ss) ++ y) units number.1),
    )

-- the end is no frame
pub end-no_frame : (records : List Rec) (x y : List ℕ) → IsFrame records → end_bytes ++ x ≡ frame_bytes records ++ y → ⊥
unfolding counted_bytes
end-no_frame records x y is same =
    let number =
    same_number 0 (end_of records) x (flat_map unit_bytes (units_of records) ++ y) (omega arith) (omega (arith, is.most)) same in
    omega (arith, number.0, is.some)

-- ---- two lists of frames in front of the same bytes

-- they are the same, or one begins with the other
pub data Aligned (fs gs : List (List Rec)) (x y : List ℕ) : Type 0 where
  same : fs ≡ gs → x ≡ y → Aligned fs gs x y
  longer : (c : List Rec) (later : List (List Rec)) → gs ≡ fs ++ c ∷ later → Aligned fs gs x y
  shorter : (c : List Rec) (later : List (List Rec)) → fs ≡ gs ++ c ∷ later → Aligned fs gs x y

Aligned-cons : (a b : List Rec) (fs gs : List (List Rec)) (x y : List ℕ) → a ≡ b → Aligned fs gs x y → Aligned (a ∷ fs) (b ∷ gs) x y
Aligned-cons a b fs gs x y first (same frames rest) = same (rw (first, frames) refl) rest
Aligned-cons a b fs gs x y first (longer c later is) = longer c later (rw (first, is) refl)
Aligned-cons a b fs gs x y first (shorter c later is) = shorter c later (rw (first, is) refl)

pub aligned_frames : (fs gs : List (List Rec)) (x y : List ℕ) → AllByRecursion IsFrame fs → AllByRecursion IsFrame gs
    → flat_map frame_bytes fs ++ x ≡ flat_map frame_bytes gs ++ y → Aligned fs gs x y
aligned_frames [] [] x y is_as is_bs whole = same refl whole
aligned_frames [] (b ∷ gs) x y is_as is_bs whole = longer b gs refl
aligned_frames (a ∷ fs) [] x y is_as is_bs whole = shorter a fs refl
aligned_frames (a ∷ fs) (b ∷ gs) x y is_as is_bs whole =
    let apart = sym (append_assoc (frame_bytes a) (flat_map frame_bytes fs) x) ∙ whole
    ∙ append_assoc (frame_bytes b) (flat_map frame_bytes gs) y in
    let first = same_frame a b (flat_map frame_bytes fs ++ x) (flat_map frame_bytes gs ++ y) is_as.0 is_bs.0 apart in
    Aligned-cons a b fs gs x y first.0 (aligned_frames fs gs x y is_as.1 is_bs.1 first.1)
