-- A number is a power of two where one of its binary digits is set.
use Rattle.std.proofs.Common.{◌≡◌, ◌⊎◌, inl, inr, refl, ◌<◌, ◌≤◌, ℕ, zero, suc, ◌/◌, ◌%◌, ◌^◌, count_ones, arith, ap}
use Rattle.std.specs.Int.Count.{ones_step}
use Rattle.std.proofs.lemmas.Nat.{ones_le_self, zero_from_ones}
use Rattle.std.proofs.Math.Nat.{pow-suc}

digit-is : (digit : ℕ) → digit < 2 → (digit ≡ 0) ⊎ (digit ≡ 1)
digit-is zero small = inl refl
digit-is (suc zero) small = inr refl
digit-is (suc (suc digit)) small = absurd (omega arith)

last-digit : (n : ℕ) → (n % 2 ≡ 0) ⊎ (n % 2 ≡ 1)
last-digit n = digit-is (n % 2) (omega arith)

power-of_digits : (digits n : ℕ) → n ≤ digits → count_ones n ≡ 1 → (k : ℕ) × (n ≡ 2 ^ k)
power-of_digits zero n short one = absurd (omega (arith, ones_le_self n))
power-of_digits (suc digits) n short one =
    let step = ones_step n in
    elim (last-digit n) [
      | inl even ↦ (let half = power-of_digits digits (n / 2) (omega arith) (omega arith) in
          (suc half.0, omega (arith, half.1, pow-suc 2 half.0)))
      | inr odd ↦ (0, (let none = zero_from_ones (n / 2) (omega arith) in omega arith))
    ]

pub count_ones-power_of_two : (n : ℕ) → count_ones n ≡ 1 → (k : ℕ) × (n ≡ 2 ^ k)
count_ones-power_of_two n = power-of_digits n n (omega arith)

pub power_of_two-count_ones : (k : ℕ) → count_ones (2 ^ k) ≡ 1
power_of_two-count_ones zero = let step = ones_step 1 in omega (arith, ones_le_self 1)
power_of_two-count_ones (suc k) =
    let twice = pow-suc 2 k in
    let half : 2 ^ suc k / 2 ≡ 2 ^ k = omega arith in
    let before = power_of_two-count_ones k in
    omega (arith, ones_step (2 ^ suc k), ap count_ones half, before)
