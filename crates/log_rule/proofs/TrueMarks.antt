-- The release marks: what a store of one keeps, what a raise of exposed keeps, and what the mark at exposed tells.
use Rattle.std.proofs.Common.{◌≡◌, inl, inr, ⊎_elim, ℕ, ◌+◌, ◌-◌, ◌%◌, ◌<◌, ◌≤◌, List, [], ◌∷◌, ◌++◌, sym, ap, ◌∙◌, subst, arith}
use Rattle.std.proofs.Math.Nat.{add-mod_right}
use Rattle.std.specs.List.{AllByRecursion}
use mathlib.Core.Logic.{dite}
use native.Mathlib.Decide.{ℕ_discrete, dec_lt}
use Rattle.log_rule.specs.Log.{LogRange, Tiles, IsReleased}
use Rattle.log_rule.specs.Marks.{IsReady, IsReadyIn, IsCurrentMark, HasTrueMark, IsFirstReleased, FirstEnds}
use Rattle.log_rule.specs.Words.{put}
use Rattle.log_rule.proofs.Filling.{modulo-differ_if_near, put-at, put-other}
use Rattle.log_rule.proofs.RangeLists.{tiles-le, tiles-split, tiles-all_replaced}

-- a range that is ready stands among others
pub ready-is_ready_in : (at end : ℕ) (ls rs : List LogRange) (r : LogRange) → IsReady at end r → IsReadyIn at end (ls ++ r ∷ rs)
ready-is_ready_in at end [] rs r ready = inl ready
ready-is_ready_in at end (l ∷ ls) rs r ready = inr (ready-is_ready_in at end ls rs r ready)

pub ready_in-append : (at end : ℕ) (ranges more : List LogRange) → IsReadyIn at end ranges → IsReadyIn at end (ranges ++ more)
ready_in-append at end [] more ready = absurd ready
ready_in-append at end (r ∷ rs) more ready = ⊎_elim (λ here. inl here) (λ later. inr (ready_in-append at end rs more later)) ready

-- one that is not released is exchanged for another
pub ready_in-mid_replaced : (at end : ℕ) (ls rs : List LogRange) (r r' : LogRange) → (IsReleased r → ⊥) → IsReadyIn at end (ls ++ r ∷ rs) → IsReadyIn at end (ls ++ r' ∷ rs)
ready_in-mid_replaced at end [] rs r r' unreleased ready = ⊎_elim (λ (here : IsReady at end r). absurd (unreleased here.released)) (λ later. inr later) ready
ready_in-mid_replaced at end (l ∷ ls) rs r r' unreleased ready = ⊎_elim (λ here. inl here) (λ later. inr (ready_in-mid_replaced at end ls rs r r' unreleased later)) ready

-- what is ready lies within the tiling
ready-low : (most from to at end : ℕ) (ranges : List LogRange) → Tiles most from ranges to → IsReadyIn at end ranges → from ≤ at
ready-low most from to at end [] t ready = absurd ready
ready-low most from to at end (r ∷ rs) t ready = ⊎_elim (λ (here : IsReady at end r). omega (arith, here.base, t.0))
    (λ later. omega (arith, ready-low most (from + r.size) to at end rs t.3 later)) ready

-- the first range is ready, from the one LSN to the other
abbrev pub IsFirstReady : ℕ → ℕ → List LogRange → Type 0
IsFirstReady at end [] = ⊥
IsFirstReady at end (r ∷ rs) = IsReady at end r

pub ready_in-first_ready : (most from to end : ℕ) (ranges : List LogRange) → Tiles most from ranges to → IsReadyIn from end ranges → IsFirstReady from end ranges
ready_in-first_ready most from to end [] t ready = absurd ready
ready_in-first_ready most from to end (r ∷ rs) t ready = ⊎_elim (λ here. here)
    (λ later. absurd (omega (arith, ready-low most (from + r.size) to from end rs t.3 later, t.1))) ready

pub first_ready-first_ends : (at end : ℕ) (ranges : List LogRange) → IsFirstReady at end ranges → FirstEnds ranges end
first_ready-first_ends at end [] ready = absurd ready
first_ready-first_ends at end (r ∷ rs) ready = (ready.released, sym ready.ends)

-- the mark at exposed is above exposed where the first range ahead is released
pub true_mark-above_exposed : (most size exposed tail : ℕ) (mark : ℕ → ℕ) (ahead : List LogRange) → Tiles most exposed ahead tail
    → AllByRecursion (HasTrueMark size mark) ahead → IsFirstReleased ahead → exposed < mark (exposed % size)
true_mark-above_exposed most size exposed tail mark [] t true' first = absurd first
true_mark-above_exposed most size exposed tail mark (r ∷ rs) t true' first =
    let high : r.base + r.size ≤ mark (r.base % size) = true'.0 first in
    let same : mark (r.base % size) ≡ mark (exposed % size) = ap (λ n. mark (n % size)) t.0 in omega (arith, high, same, t.0, t.1)

-- and only there
pub current_mark-first_ready : (most size exposed tail : ℕ) (mark : ℕ → ℕ) (ahead : List LogRange) → Tiles most exposed ahead tail
    → IsCurrentMark size mark ahead exposed → exposed < mark (exposed % size) → IsFirstReady exposed (mark (exposed % size)) ahead
current_mark-first_ready most size exposed tail mark ahead t current above =
    ⊎_elim (λ low. absurd (omega (arith, low, above))) (λ ready. ready_in-first_ready most exposed tail _ ahead t ready) current

module _ (most size : ℕ) (mark : ℕ → ℕ) (ls rs : List LogRange) (r r' : LogRange) where
  abbrev end : ℕ
  end = r.base + r.size

  abbrev mark' : ℕ → ℕ
  mark' = put mark (r.base % size) end

  at-base : (x : ℕ) → x % size ≡ r.base % size → mark' (x % size) ≡ end
  at-base x same = ap mark' same ∙ put-at mark (r.base % size) end

  -- A store of a range's mark keeps all marks true: those of ranges of a lap before, which end at or below its base, those of others of
  -- this lap, whose marks lie elsewhere, and its own.
  pub true_mark-store : (start tail : ℕ) → Tiles most start (ls ++ r ∷ rs) tail → r'.base ≡ r.base → r'.size ≡ r.size → tail ≤ r.base + size
      → AllByRecursion (HasTrueMark size mark) (ls ++ r ∷ rs) → AllByRecursion (HasTrueMark size mark') (ls ++ r' ∷ rs)
  true_mark-store start tail tiles base-is size-is near all =
      tiles-all_replaced (HasTrueMark size mark) (HasTrueMark size mark') most start tail ls rs r r' tiles all
      (λ _. omega (arith, base-is, size-is, at-base r'.base (ap (λ n. n % size) base-is)))
      (λ q true' least lo hi apart released. dite (ℕ_discrete (q.base % size) (r.base % size))
      (λ same. ⊎_elim (λ before. omega (arith, before, at-base q.base same))
      (λ behind. absurd (modulo-differ_if_near q.base r.base size (λ e. omega (arith, e, behind, positive)) (omega (arith, near, hi, least))
      (omega (arith, behind, positive)) same)) apart)
      (λ differ. subst (λ n. q.base + q.size ≤ n) (sym (put-other mark (r.base % size) end (q.base % size) differ)) (true' released)))
    where
      positive : 1 ≤ r.size
      positive = (tiles-split most start tail ls rs r tiles).1

  -- and current
  pub current_mark-store : (exposed tail : ℕ) → Tiles most exposed (ls ++ r ∷ rs) tail → tail ≤ exposed + size → (IsReleased r → ⊥) → IsReady r.base end r'
      → ((at : ℕ) → exposed ≤ at → at < exposed + size → IsCurrentMark size mark (ls ++ r ∷ rs) at)
      → (at : ℕ) → exposed ≤ at → at < exposed + size → IsCurrentMark size mark' (ls ++ r' ∷ rs) at
  current_mark-store exposed tail tiles near unreleased ready current at lo hi = dite (ℕ_discrete at r.base)
      (λ same. inr (subst (λ (p : ℕ × ℕ). IsReadyIn p.0 p.1 (ls ++ r' ∷ rs))
      (λ i. (sym same i, sym (at-base at (ap (λ n. n % size) same)) i)) (ready-is_ready_in r.base end ls rs r' ready)))
      (λ differ. let kept : mark' (at % size) ≡ mark (at % size) = put-other mark (r.base % size) end (at % size)
      (modulo-differ_if_near at r.base size differ (omega (arith, hi, above)) (omega (arith, lo, below, near))) in
      ⊎_elim (λ low. inl (omega (arith, kept, low)))
      (λ h. inr (subst (λ n. IsReadyIn at n (ls ++ r' ∷ rs)) (sym kept) (ready_in-mid_replaced at (mark (at % size)) ls rs r r' unreleased h))) (current at lo hi))
    where
      above : exposed ≤ r.base
      above = tiles-le most exposed r.base ls (tiles-split most exposed tail ls rs r tiles).0

      below : r.base < tail
      below = let h = tiles-split most exposed tail ls rs r tiles in omega (arith, h.1, tiles-le most (r.base + r.size) tail rs h.3)

-- exposed is raised past the first range
pub current_mark-raise : (most size exposed tail : ℕ) (mark : ℕ → ℕ) (r : LogRange) (rest : List LogRange) → Tiles most exposed (r ∷ rest) tail → most ≤ size
    → ((at : ℕ) → exposed ≤ at → at < exposed + size → IsCurrentMark size mark (r ∷ rest) at)
    → (at : ℕ) → exposed + r.size ≤ at → at < exposed + r.size + size → IsCurrentMark size mark rest at
current_mark-raise most size exposed tail mark r rest t few current at lo hi = dite (dec_lt at (exposed + size))
    (λ near. ⊎_elim (λ low. inl low) (λ ready. inr (later (mark (at % size)) ready)) (current at (omega (arith, lo)) near))
    (λ far. let before : ℕ = at - size in
    let up : before + size ≡ at = omega (arith, far) in
    let back : at % size ≡ before % size = ap (λ k. k % size) (sym up) ∙ add-mod_right before size in
    inl (subst (λ k. mark k ≤ at) (sym back) (⊎_elim (λ low. omega (arith, low, up))
    (λ ready. ⊎_elim (λ (here : IsReady before (mark (before % size)) r). omega (arith, here.ends, t.0, lo))
    (λ more. absurd (omega (arith, ready-low most (exposed + r.size) tail before _ rest t.3 more, hi, up))) ready)
    (current before (omega (arith, far, up)) (omega (arith, hi, up, t.2, few))))))
  where
    later : (end : ℕ) → IsReadyIn at end (r ∷ rest) → IsReadyIn at end rest
    later end ready = ⊎_elim (λ (here : IsReady at end r). absurd (omega (arith, here.base, t.0, t.1, lo))) (λ more. more) ready
