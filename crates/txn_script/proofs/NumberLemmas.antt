-- A number is told apart from what follows it in one way.
use Rattle.std.proofs.Common.{◌≡◌, ◌<◌, ◌≤◌, ◌^◌, ◌∙◌, sym, refl, ap, subst, ℕ, zero, suc, List, [], ◌∷◌, ◌++◌, length, take, drop, take-append-drop, slice_index, get_or, arith, All}
use Rattle.std.specs.Str.Parse.{AllDigits}
use Rattle.std.proofs.lemmas.List.Elements.{All-nil, All-cons, All-head, All-tail}
use Rattle.std.proofs.lemmas.Str.Parse.{digit_from_value}
use Rattle.std.proofs.lemmas.Fmt.{decimal_is_IsNumeral, decimal_injective}
use Rattle.lsn_space.specs.Number.{number_text}
use Rattle.txn_script.specs.declared.pay.TheConstants.{SPACE}
use Rattle.txn_script.specs.Reading.{IsDigit, EndsNumber}
use Rattle.txn_script.specs.Script.{spaced}

digits-all : (ds : List ℕ) → AllDigits 10 ds → All IsDigit ds
digits-all [] all = All-nil IsDigit
digits-all (c ∷ cs) all = All-cons IsDigit c cs (digit_from_value c all.0) (digits-all cs all.1)

pub number-digits : (n : ℕ) → n < 2 ^ 32 → All IsDigit (number_text n)
number-digits n small = digits-all (number_text n) (decimal_is_IsNumeral n (omega arith)).0.1

-- digits before something else are the same digits
pub digits-append_injective : (ds es x y : List ℕ) → All IsDigit ds → All IsDigit es → EndsNumber x → EndsNumber y → ds ++ x ≡ es ++ y
    → (ds ≡ es) × (x ≡ y)
digits-append_injective [] [] x y all_d all_e end_x end_y same = (refl, same)
digits-append_injective [] (e ∷ es) x y all_d all_e end_x end_y same = absurd (subst EndsNumber same end_x (All-head IsDigit e es all_e))
digits-append_injective (d ∷ ds) [] x y all_d all_e end_x end_y same = absurd (subst EndsNumber (sym same) end_y (All-head IsDigit d ds all_d))
digits-append_injective (d ∷ ds) (e ∷ es) x y all_d all_e end_x end_y same =
    let head : d ≡ e = ap (λ l. get_or l 0 0) same in
    let tail = digits-append_injective ds es x y (All-tail IsDigit d ds all_d) (All-tail IsDigit e es all_e) end_x end_y (ap (drop 1) same) in
    (rw (head, tail.0) refl, tail.1)

ends-behind : (len : ℕ) (bytes : List ℕ) → len ≤ length bytes → (len < length bytes → IsDigit (slice_index bytes len) → ⊥)
    → EndsNumber (drop len bytes)
ends-behind zero [] within end = tt
ends-behind (suc len) [] within end = tt
ends-behind zero (byte ∷ bytes) within end = end (omega arith)
ends-behind (suc len) (byte ∷ bytes) within end = ends-behind len bytes (omega arith) (λ below. end (omega arith))

-- all digits that come next were read, so they are the number's
pub read_digits-number_text : (len : ℕ) (bytes : List ℕ) → len ≤ length bytes → All IsDigit (take len bytes)
    → (len < length bytes → IsDigit (slice_index bytes len) → ⊥) → (n : ℕ) (rest : List ℕ) → n < 2 ^ 32 → EndsNumber rest
    → bytes ≡ number_text n ++ rest → take len bytes ≡ number_text n
read_digits-number_text len bytes within digits end n rest small whole same =
    (digits-append_injective (take len bytes) (number_text n) (drop len bytes) rest digits (number-digits n small)
    (ends-behind len bytes within end) whole (take-append-drop len bytes ∙ same)).0

pub spaced-append_injective : (m n : ℕ) (x y : List ℕ) → m < 2 ^ 32 → n < 2 ^ 32 → EndsNumber x → EndsNumber y
    → spaced m ++ x ≡ spaced n ++ y → (m ≡ n) × (x ≡ y)
spaced-append_injective m n x y small_m small_n end_x end_y same =
    let both = digits-append_injective (number_text m) (number_text n) x y (number-digits m small_m) (number-digits n small_n) end_x end_y
    (ap (drop 1) same) in
    (decimal_injective m n (omega arith) (omega arith) both.0, both.1)

pub space-no_digit : IsDigit SPACE → ⊥
space-no_digit digit = omega (arith, digit.0)
