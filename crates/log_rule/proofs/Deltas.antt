-- The deltas of a leg: an amount that is added, and the same one taken away.
use Rattle.std.proofs.Common.{◌≡◌, ℕ, zero, suc, ◌≤◌, pos, neg_ℤ, true, refl, arith}
use Rattle.std.proofs.lemmas.Int.{ints}
use Rattle.log_record.specs.Spelling.{IsDelta}
use Rattle.lsn_space.specs.declared.opening.TheConstants.{MOST_AMOUNT}
use Rattle.lock_core.specs.Records.{lowers}

pub delta-positive : (amount : ℕ) → 1 ≤ amount → amount ≤ MOST_AMOUNT → IsDelta (pos amount)
delta-positive zero least most = absurd (omega arith)
delta-positive (suc n) least most = ((λ e. cc), omega (arith, ints), omega (arith, ints))

pub delta-negated : (amount : ℕ) → 1 ≤ amount → amount ≤ MOST_AMOUNT → IsDelta (neg_ℤ (pos amount))
delta-negated zero least most = absurd (omega arith)
delta-negated (suc n) least most = ((λ e. cc), omega (arith, ints), omega (arith, ints))

pub lowers-negated : (amount : ℕ) → 1 ≤ amount → lowers (neg_ℤ (pos amount)) ≡ true
lowers-negated zero some = absurd (omega arith)
lowers-negated (suc n) some = refl

pub negated-twice : (amount : ℕ) → pos amount ≡ neg_ℤ (neg_ℤ (pos amount))
negated-twice zero = refl
negated-twice (suc n) = refl
