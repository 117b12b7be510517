-- Writes that were cut short.
use Rattle.std.proofs.Common.{◌≡◌, ◌≤◌, ◌∙◌, sym, ap, refl, subst, ℕ, ◌+◌, ◌-◌, List, ◌++◌, length, take, drop, arith, append_assoc, length-append}
use Rattle.std.proofs.lemmas.List.{drop-drop, length-take-le, length-drop, take_at, drop_at}
use Rattle.log_disk.specs.Disk.{put, IsTorn}

-- the bytes as they were
pub IsTorn-refl : (at n : ℕ) (c : List ℕ) → IsTorn at n c c
IsTorn-refl at n c = record { before = refl; after = refl; no_shorter = omega arith; no_longer = omega arith }

-- once more in the same range
pub IsTorn-trans : (at n : ℕ) (old mid new : List ℕ) → IsTorn at n old mid → IsTorn at n mid new → IsTorn at n old new
IsTorn-trans at n old mid new first second = record {
  before = second.before ∙ first.before;
  after = second.after ∙ first.after;
  no_shorter = omega (arith, first.no_shorter, second.no_shorter);
  no_longer = omega (arith, first.no_longer, second.no_longer);
}

-- in a longer range
pub IsTorn-widen : (at k n : ℕ) (old new : List ℕ) → k ≤ n → IsTorn at k old new → IsTorn at n old new
IsTorn-widen at k n old new shorter torn =
    let whole : (at + k) + (n - k) ≡ at + n = omega (arith, shorter) in
    let behind = sym (drop-drop (n - k) (at + k) new) ∙ ap (drop (n - k)) torn.after ∙ drop-drop (n - k) (at + k) old in
    record {
      before = torn.before;
      after = subst (λ m. drop m new ≡ drop m old) whole behind;
      no_shorter = torn.no_shorter;
      no_longer = omega (arith, torn.no_longer, shorter);
    }

-- a whole write within a range
pub IsTorn-put : (at n : ℕ) (bytes old : List ℕ) → at ≤ length old → length bytes ≤ n → IsTorn at n old (put at bytes old)
IsTorn-put at n bytes old within shorter =
    let front : length (take at old) ≡ at = length-take-le at old within in
    let written : length (take at old ++ bytes) ≡ at + length bytes = omega (arith, front, length-append (take at old) bytes) in
    let back = drop (at + length bytes) old in
    let long = length-append (take at old ++ bytes) back in
    IsTorn-widen at (length bytes) n old _ shorter record {
      before = ap (take at) (append_assoc (take at old) bytes back) ∙ take_at (take at old) (bytes ++ back) at front;
      after = drop_at (take at old ++ bytes) back (at + length bytes) written;
      no_shorter = omega (arith, written, long, length-drop (at + length bytes) old);
      no_longer = omega (arith, written, long, length-drop (at + length bytes) old);
    }
