-- Where ranges or parts that follow one another begin or end.
use Rattle.std.proofs.Common.{◌≡◌, ◌⊎◌, inl, inr, ⊎_elim, ℕ, ◌+◌, ◌≤◌, List, [], ◌∷◌, ◌++◌, sym, refl, ap, ◌∙◌, subst, arith}
use Rattle.std.specs.List.{AllByRecursion}
use Rattle.lsn_space.specs.Tiling.{IsTilingBoundary}
use Rattle.lsn_space.proofs.TilingLemmas.{boundary-from}
use Rattle.log_rule.specs.declared.view.Entry.{Entry}
use Rattle.log_rule.specs.Log.{Part, LogRange, Tiles, Laid, EndsWithPart, IsRangeBoundary, IsEntryBoundary, parts_of}

abbrev pub range_size : LogRange → ℕ
range_size r = r.size

abbrev pub part_size : Part → ℕ
part_size p = p.entry.size

module _ {A : Type 0} (size : A → ℕ) where
  pub boundary-append : (start at : ℕ) (xs ys : List A) → IsTilingBoundary size start xs at → IsTilingBoundary size start (xs ++ ys) at
  boundary-append start at [] ys b = subst (IsTilingBoundary size start ys) (sym b) (boundary-from size start ys)
  boundary-append start at (x ∷ xs) ys b = ⊎_elim (λ here. inl here) (λ later. inr (boundary-append (start + size x) at xs ys later)) b

  pub boundary-start_le : (start at : ℕ) (xs : List A) → IsTilingBoundary size start xs at → start ≤ at
  boundary-start_le start at [] b = omega (arith, b)
  boundary-start_le start at (x ∷ xs) b =
      ⊎_elim (λ (here : at ≡ start). omega (arith, here)) (λ later. omega (arith, boundary-start_le (start + size x) at xs later)) b

  -- one is exchanged for another of its size
  pub boundary-mid_replaced : (start at : ℕ) (ls rs : List A) (x x' : A) → size x' ≡ size x → IsTilingBoundary size start (ls ++ x ∷ rs) at
      → IsTilingBoundary size start (ls ++ x' ∷ rs) at
  boundary-mid_replaced start at [] rs x x' same b =
      ⊎_elim (λ here. inl here) (λ later. inr (subst (λ n. IsTilingBoundary size (start + n) rs at) (sym same) later)) b
  boundary-mid_replaced start at (l ∷ ls) rs x x' same b =
      ⊎_elim (λ here. inl here) (λ later. inr (boundary-mid_replaced (start + size l) at ls rs x x' same later)) b

-- where a tiling ends, a boundary of what follows is one of the whole
pub boundary-prepend_tiling : (most start from at : ℕ) (xs ys : List LogRange) → Tiles most start xs from → IsRangeBoundary from ys at
    → IsRangeBoundary start (xs ++ ys) at
boundary-prepend_tiling most start from at [] ys t b = subst (λ z. IsRangeBoundary z ys at) (sym t) b
boundary-prepend_tiling most start from at (x ∷ xs) ys t b = inr (boundary-prepend_tiling most (start + x.size) from at xs ys t.3 b)

pub boundary-end : (most start to : ℕ) (ranges : List LogRange) → Tiles most start ranges to → IsRangeBoundary start ranges to
boundary-end most start to [] t = sym t
boundary-end most start to (r ∷ rs) t = inr (boundary-end most (start + r.size) to rs t.3)

pub laid-end : (start to : ℕ) (parts : List Part) → Laid start parts to → IsTilingBoundary part_size start parts to
laid-end start to [] l = sym l
laid-end start to (p ∷ ps) l = inr (laid-end (start + p.entry.size) to ps l.2)

-- a boundary of ranges that end with parts is one of the parts
pub range_boundary-part_boundary : (most start from to at : ℕ) (parts : List Part) (ranges : List LogRange) → Tiles most from ranges to
    → AllByRecursion (EndsWithPart start parts) ranges → IsTilingBoundary part_size start parts from → IsRangeBoundary from ranges at
    → IsTilingBoundary part_size start parts at
range_boundary-part_boundary most start from to at parts [] t ends here b = subst (IsTilingBoundary part_size start parts) (sym b) here
range_boundary-part_boundary most start from to at parts (r ∷ rs) t ends here b = ⊎_elim
    (λ same. subst (IsTilingBoundary part_size start parts) (sym same) here)
    (λ later. range_boundary-part_boundary most start (from + r.size) to at parts rs t.3 ends.1
    (subst (λ n. IsTilingBoundary part_size start parts (n + r.size)) t.0 ends.0) later) b

-- and of the entries that the parts are of
pub boundary-entries : (seat start at : ℕ) (entries : List Entry) (flag : Rattle.std.proofs.Common.Bool)
    → IsTilingBoundary part_size start (parts_of seat flag entries) at → IsEntryBoundary start entries at
boundary-entries seat start at [] flag b = b
boundary-entries seat start at (e ∷ es) flag b = ⊎_elim (λ here. inl here) (λ later. inr (boundary-entries seat (start + e.size) at es flag later)) b

-- a boundary not before a tiling's end is one of what follows, and one not behind it is one of the tiling
pub boundary-split_right : (most start from at : ℕ) (xs ys : List LogRange) → Tiles most start xs from → IsRangeBoundary start (xs ++ ys) at → from ≤ at
    → IsRangeBoundary from ys at
boundary-split_right most start from at [] ys t b le = subst (λ n. IsRangeBoundary n ys at) t b
boundary-split_right most start from at (x ∷ xs) ys t b le = ⊎_elim
    (λ (here : at ≡ start). absurd
    (omega (arith, here, le, t.1, boundary-start_le range_size (start + x.size) from xs (boundary-end most (start + x.size) from xs t.3))))
    (λ later. boundary-split_right most (start + x.size) from at xs ys t.3 later le) b

pub boundary-split_left : (most from to at : ℕ) (xs ys : List LogRange) → Tiles most from xs to → IsRangeBoundary from (xs ++ ys) at → at ≤ to
    → IsRangeBoundary from xs at
boundary-split_left most from to at [] ys t b le = omega (arith, le, t, boundary-start_le range_size from at ys b)
boundary-split_left most from to at (x ∷ xs) ys t b le = ⊎_elim (λ here. inl here)
    (λ later. inr (boundary-split_left most (from + x.size) to at xs ys t.3 later le)) b

-- a tiling in two, at a boundary
pub record Cut (most from at to : ℕ) (ranges : List LogRange) : Type 0 where
  pub before : List LogRange
  pub behind : List LogRange
  pub split : ranges ≡ before ++ behind
  pub first : Tiles most from before at
  pub second : Tiles most at behind to

pub tiles-cut_at_boundary : (most from at to : ℕ) (ranges : List LogRange) → Tiles most from ranges to → IsRangeBoundary from ranges at → Cut most from at to ranges
tiles-cut_at_boundary most from at to [] t b = record { before = []; behind = []; split = refl; first = sym b; second = b ∙ t }
tiles-cut_at_boundary most from at to (r ∷ rs) t b = ⊎_elim (λ (here : at ≡ from). none here)
    (λ later. more (tiles-cut_at_boundary most (from + r.size) at to rs t.3 later)) b
  where
    none : at ≡ from → Cut most from at to (r ∷ rs)
    none here = record { before = []; behind = r ∷ rs; split = refl; first = sym here; second = subst (λ n. Tiles most n (r ∷ rs) to) (sym here) t }

    more : Cut most (from + r.size) at to rs → Cut most from at to (r ∷ rs)
    more c = record {
      before = r ∷ c.before;
      behind = c.behind;
      split = ap (λ l. r ∷ l) c.split;
      first = (t.0, t.1, t.2, c.first);
      second = c.second;
    }
