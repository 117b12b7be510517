-- A leg's amount moves, holding by holding.
use Rattle.std.proofs.Common.{◌≡◌, ℕ, ◌+◌, ◌<◌, List, length, get_or, set, take, drop, sym, ap, ◌∙◌, subst, arith}
use Rattle.std.specs.List.{AllZip}
use Rattle.std.proofs.lemmas.List.{length-drop, drop-drop, drop-set-lt, get_or-drop, get_or_default, take_more_set}
use Rattle.std.proofs.lemmas.List.Elements.{all_zip_more}

-- a list is changed from the front on: from here it is still as it was
module _ {X : Type 0} (R : X → X → Type 0) (xs ys : List X) (i : ℕ) (within : i < length ys) (same : drop i ys ≡ drop i xs) where
  pub get_or-unchanged : (x : X) → get_or ys i x ≡ get_or xs i x
  get_or-unchanged x = ap (λ j. get_or ys j x) (omega arith) ∙ sym (get_or-drop i ys 0 x) ∙ ap (λ rest. get_or rest 0 x) same ∙ get_or-drop i xs 0 x
      ∙ ap (λ j. get_or xs j x) (omega arith)

  pub unchanged-index_within : i < length xs
  unchanged-index_within = omega (arith, length-drop i ys, length-drop i xs, ap length same)

  pub AllZip-set_next : (x y : X) → R (get_or ys i x) y → AllZip R (take i xs) (take i ys)
      → AllZip R (take (i + 1) xs) (take (i + 1) (set ys i y))
  AllZip-set_next x y related before = subst (AllZip R (take (i + 1) xs)) (sym (take_more_set ys i y within))
      (all_zip_more R xs (take i ys) i (get_or xs i x) y unchanged-index_within (get_or_default xs i x _ unchanged-index_within) before
      (subst (λ z. R z y) (get_or-unchanged x) related))

  pub drop-behind_set : (y : X) → drop (i + 1) (set ys i y) ≡ drop (i + 1) xs
  drop-behind_set y = drop-set-lt (i + 1) ys i y (omega arith) ∙ ap (λ n. drop n ys) (omega arith) ∙ sym (drop-drop 1 i ys)
      ∙ ap (drop 1) same ∙ drop-drop 1 i xs
      ∙ ap (λ n. drop n xs) (omega arith)
