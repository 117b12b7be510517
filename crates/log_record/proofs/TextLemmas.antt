-- Units and the bytes that they stand for.
use Rattle.std.proofs.Common.{◌≡◌, ◌∙◌, ◌+◌, ◌-◌, ◌*◌, ◌/◌, ◌<◌, ◌≤◌, ◌^◌, ℕ, zero, suc, List, [], ◌∷◌, ◌++◌, length, take, drop, get_or, map}
use Rattle.std.proofs.Common.{replicate, All, refl, sym, ap, arith, lit<, length-append, length-drop}
use Rattle.std.proofs.lemmas.List.{length-replicate, length-take-le, take-append-drop, take-replicate}
use Rattle.std.proofs.lemmas.List.Elements.{All-append, All-take, All-drop, All-replicate}
use Rattle.std.proofs.lemmas.Nat.{be_bytes_8, from_be_bytes-to_be_bytes_8}
use Rattle.std.proofs.Math.Seq.{take-append_seam, drop-append_seam, take-append-add}
use Rattle.std.specs.List.{flat_map}
use Rattle.std.specs.Simd.{first_chunks}
use Rattle.lsn_space.specs.Unit.{unit_value, unit_bytes}
use Rattle.log_record.specs.Spelling.{units_for, units_from, padded, text_units, IsPrintable}

abbrev pub IsByte : ℕ → Type 0
IsByte byte = byte < 256

pub get_or-below_256 : (bytes : List ℕ) → All IsByte bytes → (i : ℕ) → get_or bytes i 0 < 256
get_or-below_256 [] small i = lit< tt
get_or-below_256 (b ∷ bytes) small zero = small 0 0 (omega arith)
get_or-below_256 (b ∷ bytes) small (suc i) = get_or-below_256 bytes (All-drop IsByte 1 (b ∷ bytes) small) i

-- units are read back from their bytes
pub units_from-unit_bytes : (units : List ℕ) → All (λ unit. unit < 2 ^ 64) units
    → units_from (length units) (flat_map unit_bytes units) ≡ units
units_from-unit_bytes [] below = refl
units_from-unit_bytes (u ∷ units) below =
    ap (λ v. v ∷ units_from (length units) (flat_map unit_bytes units)) (from_be_bytes-to_be_bytes_8 u (below 0 0 (omega arith)))
    ∙ ap (λ us. u ∷ us) (units_from-unit_bytes units (All-drop (λ unit. unit < 2 ^ 64) 1 (u ∷ units) below))

-- bytes are read back from their units
pub unit_bytes-units_from : (n : ℕ) (bytes : List ℕ) → length bytes ≡ 8 * n → All IsByte bytes
    → flat_map unit_bytes (units_from n bytes) ≡ bytes
unit_bytes-units_from zero [] len small = refl
unit_bytes-units_from zero (b ∷ bytes) len small = absurd (omega arith)
unit_bytes-units_from (suc n) bytes len small =
    let first : length (take 8 bytes) ≡ 8 = length-take-le 8 bytes (omega arith) in
    let rest : length (drop 8 bytes) ≡ 8 * n = omega (arith, length-drop 8 bytes) in
    let front : unit_bytes (unit_value (take 8 bytes)) ≡ take 8 bytes =
    be_bytes_8 (take 8 bytes) _ first (get_or-below_256 (take 8 bytes) (All-take IsByte 8 bytes small)) refl in
    ap (λ xs. xs ++ flat_map unit_bytes (units_from n (drop 8 bytes))) front
    ∙ ap (λ ys. take 8 bytes ++ ys) (unit_bytes-units_from n (drop 8 bytes) rest (All-drop IsByte 8 bytes small))
    ∙ take-append-drop 8 bytes

-- the units of a text, by chunks
pub map-first_chunks : (n : ℕ) (bytes : List ℕ) → map unit_value (first_chunks 8 n bytes) ≡ units_from n bytes
map-first_chunks zero bytes = refl
map-first_chunks (suc n) bytes = ap (λ us. unit_value (take 8 bytes) ∷ us) (map-first_chunks n (drop 8 bytes))

-- zeros are told by their number
pub all_zero-replicate : (xs : List ℕ) → All (λ x. x ≡ 0) xs → xs ≡ replicate (length xs) 0
all_zero-replicate [] each = refl
all_zero-replicate (x ∷ xs) each =
    ap (λ y. y ∷ xs) (each 0 0 (omega arith)) ∙ ap (λ ys. 0 ∷ ys) (all_zero-replicate xs (All-drop (λ y. y ≡ 0) 1 (x ∷ xs) each))

length-padded : (text : List ℕ) → length (padded text) ≡ 8 * units_for (length text)
length-padded text = omega (arith, length-append {A = ℕ}, length-replicate {A = ℕ})

-- the front of a text in a buffer of zeros
take-padded : (text : List ℕ) → length text ≤ 200 → take (8 * units_for (length text)) (text ++ replicate (200 - length text) 0) ≡ padded text
take-padded text short =
    let zeros : ℕ = 8 * units_for (length text) - length text in
    let count : 8 * units_for (length text) ≡ length text + zeros = omega arith in
    ap (λ n. take n (text ++ replicate (200 - length text) 0)) count
    ∙ take-append-add text (replicate (200 - length text) 0) zeros
    ∙ ap (λ xs. text ++ xs) (take-replicate {X = ℕ} zeros (200 - length text) 0 (omega arith))

pub text_units-first_chunks : (text bytes : List ℕ) (chunks : List (List ℕ)) → length text ≤ 200
    → bytes ≡ take (8 * units_for (length text)) (text ++ replicate (200 - length text) 0)
    → chunks ≡ first_chunks 8 (length bytes / 8) bytes
    → map unit_value chunks ≡ text_units text
text_units-first_chunks text bytes chunks short front cut =
    let same : bytes ≡ padded text = front ∙ take-padded text short in
    let count : length bytes / 8 ≡ units_for (length text) = omega (arith, ap length same, length-padded text) in
    ap (map unit_value) cut ∙ map-first_chunks (length bytes / 8) bytes
    ∙ ap (λ n. units_from n bytes) count ∙ ap (units_from (units_for (length text))) same

pub padded-all_bytes : (text : List ℕ) → All IsPrintable text → All IsByte (padded text)
padded-all_bytes text printable = All-append IsByte text _ (λ k d lt. omega (arith, printable k d lt)) (All-replicate IsByte _ 0 (lit< tt))

-- the bytes of a text's units
pub unit_bytes-text_units : (text : List ℕ) → All IsPrintable text → flat_map unit_bytes (text_units text) ≡ padded text
unit_bytes-text_units text printable =
    unit_bytes-units_from (units_for (length text)) (padded text) (length-padded text) (padded-all_bytes text printable)

-- a text is the front of its units' bytes, and zeros follow
pub unit_bytes-text_and_zeros : (units text : List ℕ) → All IsPrintable text → units ≡ text_units text
    → (take (length text) (flat_map unit_bytes units) ≡ text) × All (λ byte. byte ≡ 0) (drop (length text) (flat_map unit_bytes units))
unit_bytes-text_and_zeros units text printable is =
    let bytes = ap (flat_map unit_bytes) is ∙ unit_bytes-text_units text printable in
    rw bytes (
      take-append_seam text _,
      rw (drop-append_seam text (replicate (8 * units_for (length text) - length text) 0)) (All-replicate (λ byte. byte ≡ 0) _ 0 refl),
    )

-- bytes that are a text and zeros give the text's units
pub text_and_zeros-text_units : (units text padding : List ℕ) → All (λ unit. unit < 2 ^ 64) units → length units ≡ units_for (length text)
    → flat_map unit_bytes units ≡ text ++ padding → length (flat_map unit_bytes units) ≡ 8 * length units → All (λ byte. byte ≡ 0) padding
    → units ≡ text_units text
text_and_zeros-text_units units text padding below count is len zeros =
    let rest : length padding ≡ 8 * units_for (length text) - length text = omega (arith, ap length is, length-append text padding) in
    let whole : flat_map unit_bytes units ≡ padded text =
    is ∙ ap (λ xs. text ++ xs) (all_zero-replicate padding zeros) ∙ ap (λ n. text ++ replicate n 0) rest in
    sym (units_from-unit_bytes units below) ∙ ap (λ n. units_from n (flat_map unit_bytes units)) count
    ∙ ap (units_from (units_for (length text))) whole
