-- Bytes that are a known front and then others, and writes behind that front.
use Rattle.std.proofs.Common.{◌≡◌, ◌<◌, ◌∙◌, sym, ap, refl, ℕ, zero, suc, ◌+◌, List, [], ◌∷◌, ◌++◌, length, get_or, take, drop, Some, arith, append_assoc, length-append, take-append-drop}
use Rattle.std.specs.List.{slice_get}
use Rattle.std.proofs.lemmas.List.{take_at, drop_more}
use Rattle.std.proofs.Math.Seq.{drop-append-add}
use Rattle.log_disk.specs.Disk.{put, IsTorn}

-- the byte behind a front
pub slice_get-seam : (front : List ℕ) (byte : ℕ) (rest : List ℕ) → slice_get (front ++ byte ∷ rest) (length front) ≡ Some byte
slice_get-seam [] byte rest = refl
slice_get-seam (first ∷ front) byte rest = slice_get-seam front byte rest

pub slice_get-drop : (bytes : List ℕ) (at : ℕ) → slice_get (drop at bytes) 0 ≡ slice_get bytes at
slice_get-drop bytes zero = refl
slice_get-drop [] (suc at) = refl
slice_get-drop (first ∷ bytes) (suc at) = slice_get-drop bytes at

-- bytes before a place, the byte there, and the bytes behind
pub slice_get-split : (bytes : List ℕ) (at byte : ℕ) → slice_get bytes at ≡ Some byte → bytes ≡ take at bytes ++ byte ∷ drop (at + 1) bytes
slice_get-split [] at byte is = grind arith
slice_get-split (first ∷ bytes) zero byte is = grind arith
slice_get-split (first ∷ bytes) (suc at) byte is =
    let past : suc (at + 1) ≡ suc at + 1 = omega arith in
    ap (λ rest. first ∷ rest) (slice_get-split bytes at byte is) ∙ ap (λ n. first ∷ (take at bytes ++ byte ∷ drop n (first ∷ bytes))) past

module _ (at : ℕ) (front : List ℕ) (place : at ≡ length front) where
  -- a torn write behind the front leaves it
  pub torn-front_kept : (n : ℕ) (rest new : List ℕ) → IsTorn at n (front ++ rest) new → new ≡ front ++ drop at new
  torn-front_kept n rest new torn = sym (take-append-drop at new) ∙ ap (λ bytes. bytes ++ drop at new) (torn.before ∙ take_at front rest at (sym place))

  -- a torn write of one byte leaves the front, and what is behind the byte
  pub torn_byte-front_and_rest_kept : (byte : ℕ) (rest new : List ℕ) → IsTorn at 1 (front ++ byte ∷ rest) new → new ≡ front ++ get_or new at 0 ∷ rest
  torn_byte-front_and_rest_kept byte rest new torn =
      let long : at < length new = omega (arith, torn.no_shorter, length-append front (byte ∷ rest)) in
      let back : drop (at + 1) (front ++ byte ∷ rest) ≡ rest = ap (λ n. drop n (front ++ byte ∷ rest)) (ap (λ n. n + 1) place) ∙ drop-append-add front (byte ∷ rest) 1 in
      torn-front_kept 1 (byte ∷ rest) new torn ∙ ap (λ bytes. front ++ bytes) (drop_more new at 0 long ∙ ap (λ bytes. get_or new at 0 ∷ bytes) (torn.after ∙ back))

  -- a whole write behind the front
  pub put-behind : (bytes rest : List ℕ) → put at bytes (front ++ rest) ≡ front ++ (bytes ++ drop (length bytes) rest)
  put-behind bytes rest =
      let back : drop (at + length bytes) (front ++ rest) ≡ drop (length bytes) rest = ap (λ n. drop (n + length bytes) (front ++ rest)) place ∙ drop-append-add front rest (length bytes) in
      rw (take_at front rest at (sym place), back) (append_assoc front bytes (drop (length bytes) rest))
