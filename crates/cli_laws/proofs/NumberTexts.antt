-- The text of any number is digits, and no other number's text is that of one of 32 bits.
use Rattle.std.proofs.Common.{◌≡◌, ◌<◌, ◌≤◌, ◌^◌, ◌/◌, ◌%◌, ◌+◌, ◌∙◌, sym, refl, ap, subst, ℕ, zero, suc, Bool, true, false, ◌==◌, if◌then◌else◌}
use Rattle.std.proofs.Common.{List, [], ◌∷◌, length, arith, All, lt-ltb, ne_eqb, pow-suc, le-div_iff_mul-le}
use native.Mathlib.Nat.{one-le-pow}
use mathlib.Core.Logic.{dite}
use native.Mathlib.Decide.{dec_lt}
use Rattle.std.specs.Fmt.{digits, digits_onto, digit_glyph}
use Rattle.std.specs.Str.Parse.{digits_value}
use Rattle.std.proofs.lemmas.Fmt.{decimal_is_IsNumeral_wide, length-decimal-le}
use Rattle.std.proofs.lemmas.List.Elements.{All-nil, All-cons}
use Rattle.lsn_space.specs.Number.{number_text}
use Rattle.txn_script.specs.Reading.{IsDigit}

number_text-onto : (n : ℕ) → number_text n ≡ digits_onto 64 10 false n []
unfolding digits
number_text-onto n = refl

-- the last digit
glyph : (n : ℕ) → digit_glyph false (n % 10) ≡ 48 + n % 10
glyph n = ap (λ (small : Bool). if small then 48 + n % 10 else 87 + n % 10) (lt-ltb (n % 10) 10 (omega arith))

digits-onto : (k n : ℕ) (digits : List ℕ) → All IsDigit digits → All IsDigit (digits_onto k 10 false n digits)
digits-onto zero n digits all = all
digits-onto (suc k) n digits all = either (n / 10 == 0) _ _ more (digits-onto k (n / 10) _ more)
  where
    more : All IsDigit (digit_glyph false (n % 10) ∷ digits)
    more = All-cons IsDigit _ digits (subst IsDigit (sym (glyph n)) (omega arith, omega arith)) all

    either : (last : Bool) (xs ys : List ℕ) → All IsDigit xs → All IsDigit ys → All IsDigit (if last then xs else ys)
    either true xs ys x y = x
    either false xs ys x y = y

pub number-digits : (n : ℕ) → All IsDigit (number_text n)
number-digits n = subst (All IsDigit) (sym (number_text-onto n)) (digits-onto 64 n [] (All-nil IsDigit))

-- a number that is too large has as many digits as are written at most
length-onto : (k n : ℕ) (digits : List ℕ) → 10 ^ k ≤ n → length (digits_onto k 10 false n digits) ≡ k + length digits
length-onto zero n digits large = omega arith
length-onto (suc k) n digits large =
    ap (λ (last : Bool). length (if last then more else digits_onto k 10 false (n / 10) more)) (ne_eqb (n / 10) 0 (λ none. omega (arith, some)))
    ∙ length-onto k (n / 10) more next ∙ omega arith
  where
    more : List ℕ
    more = digit_glyph false (n % 10) ∷ digits

    next : 10 ^ k ≤ n / 10
    next = (le-div_iff_mul-le (omega arith)).1 (omega (arith, pow-suc 10 k))

    some : 0 < n / 10
    some = omega (arith, next, one-le-pow k 10 (omega arith))

pub number_text-injective : (m n : ℕ) → m < 2 ^ 32 → number_text m ≡ number_text n → m ≡ n
number_text-injective m n small same = dite (dec_lt n (10 ^ 64)) known (λ above. large (omega arith))
  where
    known : n < 10 ^ 64 → m ≡ n
    known below = sym (decimal_is_IsNumeral_wide m (omega arith)).1 ∙ ap (digits_value 10) same ∙ (decimal_is_IsNumeral_wide n below).1

    large : 10 ^ 64 ≤ n → m ≡ n
    large above = absurd (omega (
      arith,
      length-decimal-le 10 m (omega arith) (omega arith) (omega arith),
      ap length same,
      ap length (number_text-onto n),
      length-onto 64 n [] above,
    ))
