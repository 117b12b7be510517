-- What a table shows of the machine, where a seat's call or one range changes.
use Rattle.std.proofs.Common.{◌≡◌, inl, inr, ⊎_elim, ℕ, zero, suc, ◌==◌, ◌+◌, ◌≤◌, cond, true, false, List, [], ◌∷◌, ◌++◌, map, set, Some, None, sym, refl, ap, ◌∙◌, arith, eq-eqb, ne_eqb}
use Rattle.std.specs.List.{find}
use mathlib.Core.Option.{some, some-injective, some-ne-none}
use lib.ListN.{get_elem?}
use Rattle.ring_core.specs.RingLog.{Reservation, is_at, filled_at, released_at}
use Rattle.slot_core.specs.State.{Hand, task_of, with_task}
use Rattle.log_rule.specs.declared.view.View.{View}
use Rattle.log_rule.specs.Log.{Part, LogRange, Tiles, filled_in, is_released}
use Rattle.log_rule.specs.Events.{reservation_of, task_in, hands_of}
use Rattle.log_rule.proofs.RangeLists.{RangesApart, tiles-le, tiles-split}

-- a seat whose call shows the same changes nothing
pub hands_of-set_same : (first me : ℕ) (views : List View) (v new : View) → get_elem? views me ≡ some v → task_in new.call ≡ task_in v.call
    → hands_of first (set views me new) ≡ hands_of first views
hands_of-set_same first me [] v new at same = refl
hands_of-set_same first zero (x ∷ xs) v new at same =
    λ i. record { actor = first; task = (same ∙ ap (λ (z : View). task_in z.call) (sym (some-injective x v at))) i } ∷ hands_of (first + 1) xs
hands_of-set_same first (suc me) (x ∷ xs) v new at same =
    ap (λ l. record { actor = first; task = task_in x.call } ∷ l) (hands_of-set_same (first + 1) me xs v new at same)

-- a seat turns to another call
pub hands_of-set : (first me actor : ℕ) (views : List View) (v new : View) → actor ≡ first + me → get_elem? views me ≡ some v
    → hands_of first (set views me new) ≡ with_task actor (task_in new.call) (hands_of first views)
hands_of-set first me actor [] v new is at = absurd (some-ne-none v (sym at))
hands_of-set first zero actor (x ∷ xs) v new is at = let here : first ≡ actor = omega arith in
    ap (λ n. record { actor = n; task = task_in new.call } ∷ hands_of (first + 1) xs) here
    ∙ sym (ap (λ b. cond {A = List Hand} b (record { actor = actor; task = task_in new.call } ∷ hands_of (first + 1) xs)
    (record { actor = first; task = task_in x.call } ∷ with_task actor (task_in new.call) (hands_of (first + 1) xs)))
    (eq-eqb first actor here))
hands_of-set first (suc me) actor (x ∷ xs) v new is at =
    ap (λ l. record { actor = first; task = task_in x.call } ∷ l) (hands_of-set (first + 1) me actor xs v new (omega arith) at)
    ∙ sym (ap (λ b. cond {A = List Hand} b (record { actor = actor; task = task_in new.call } ∷ hands_of (first + 1) xs)
    (record { actor = first; task = task_in x.call } ∷ with_task actor (task_in new.call) (hands_of (first + 1) xs)))
    (ne_eqb first actor (λ e. omega arith)))

pub task_of-hands_of : (first me actor : ℕ) (views : List View) (v : View) → actor ≡ first + me → get_elem? views me ≡ some v
    → task_of actor (hands_of first views) ≡ task_in v.call
task_of-hands_of first me actor [] v is at = absurd (some-ne-none v (sym at))
task_of-hands_of first zero actor (x ∷ xs) v is at =
    ap (λ b. cond b (task_in x.call) (task_of actor (hands_of (first + 1) xs))) (eq-eqb first actor (omega arith))
    ∙ ap (λ (z : View). task_in z.call) (some-injective x v at)
task_of-hands_of first (suc me) actor (x ∷ xs) v is at =
    ap (λ b. cond b (task_in x.call) (task_of actor (hands_of (first + 1) xs))) (ne_eqb first actor (λ e. omega arith))
    ∙ task_of-hands_of (first + 1) me actor xs v (omega arith) at

-- the reservation at a range's base is that range's
pub find-reservation_at_base : (parts : List Part) (most from to : ℕ) (ls rs : List LogRange) (r : LogRange) → Tiles most from (ls ++ r ∷ rs) to
    → find (is_at r.base) (map (reservation_of parts) (ls ++ r ∷ rs)) ≡ Some (reservation_of parts r)
find-reservation_at_base parts most from to [] rs r t =
    ap (λ b. cond b (Some (reservation_of parts r)) (find (is_at r.base) (map (reservation_of parts) rs))) (eq-eqb r.base r.base refl)
find-reservation_at_base parts most from to (q ∷ ls) rs r t = let h = tiles-split most (from + q.size) to ls rs r t.3 in
    ap (λ b. cond b (Some (reservation_of parts q)) (find (is_at r.base) (map (reservation_of parts) (ls ++ r ∷ rs))))
    (ne_eqb q.base r.base (λ e. omega (arith, tiles-le most (from + q.size) r.base ls h.0, t.0, t.1)))
    ∙ find-reservation_at_base parts most (from + q.size) to ls rs r t.3

-- no range begins where the last one ends
pub find-none_at_end : (parts : List Part) (most from to : ℕ) (rs : List LogRange) → Tiles most from rs to
    → find (is_at to) (map (reservation_of parts) rs) ≡ None
find-none_at_end parts most from to [] t = refl
find-none_at_end parts most from to (r ∷ rs) t =
    ap (λ b. cond b (Some (reservation_of parts r)) (find (is_at to) (map (reservation_of parts) rs)))
    (ne_eqb r.base to (λ e. omega (arith, tiles-le most (from + r.size) to rs t.3, t.0, t.1)))
    ∙ find-none_at_end parts most (from + r.size) to rs t.3

-- a change of the reservation at a base leaves those that start elsewhere
abbrev pub LeavesOthers : ℕ → (Reservation → Reservation) → Type 0
LeavesOthers base change = (r : Reservation) → (r.base == base) ≡ false → change r ≡ r

-- parts change, but no units that are filled
pub reservation_of-same_filled : (parts parts' : List Part) (ranges : List LogRange) → ((base size : ℕ) → filled_in base size parts' ≡ filled_in base size parts)
    → map (reservation_of parts') ranges ≡ map (reservation_of parts) ranges
reservation_of-same_filled parts parts' [] same = refl
reservation_of-same_filled parts parts' (r ∷ rs) same =
    λ i. record { base = r.base; size = r.size; filled = same r.base r.size i; released = is_released r.duty } ∷ reservation_of-same_filled parts parts' rs same i

-- the units of one range alone change, and it is shown as the change of what it was
module _ (parts parts' : List Part) (change : Reservation → Reservation) (r r' : LogRange) (leaves : LeavesOthers r.base change)
    (others : (q : LogRange) → RangesApart q r → filled_in q.base q.size parts' ≡ filled_in q.base q.size parts)
    (is : reservation_of parts' r' ≡ change (reservation_of parts r)) where
  other-shown : (q : LogRange) → 1 ≤ q.size → 1 ≤ r.size → RangesApart q r → reservation_of parts' q ≡ change (reservation_of parts q)
  other-shown q least positive apart =
      (λ i. record { base = q.base; size = q.size; filled = others q apart i; released = is_released q.duty })
      ∙ sym (leaves (reservation_of parts q)
      (ne_eqb q.base r.base (λ e. ⊎_elim (λ before. omega (arith, before, e, least)) (λ behind. omega (arith, behind, e, positive)) apart)))

  others-shown : (most from to : ℕ) (rs : List LogRange) → Tiles most from rs to → r.base + r.size ≤ from → 1 ≤ r.size
      → map (reservation_of parts') rs ≡ map change (map (reservation_of parts) rs)
  others-shown most from to [] t below positive = refl
  others-shown most from to (q ∷ qs) t below positive =
      λ i. other-shown q t.1 positive (inr (omega (arith, below, t.0))) i
      ∷ others-shown most (from + q.size) to qs t.3 (omega (arith, below)) positive i

  pub reservation_of-range_changed : (most from to : ℕ) (ls rs : List LogRange) → Tiles most from (ls ++ r ∷ rs) to
      → map (reservation_of parts') (ls ++ r' ∷ rs) ≡ map change (map (reservation_of parts) (ls ++ r ∷ rs))
  reservation_of-range_changed most from to [] rs t =
      λ i. is i ∷ others-shown most (from + r.size) to rs t.3 (omega (arith, t.0)) t.1 i
  reservation_of-range_changed most from to (q ∷ ls) rs t = let h = tiles-split most (from + q.size) to ls rs r t.3 in
      λ i. other-shown q t.1 h.1 (inl (omega (arith, t.0, tiles-le most (from + q.size) r.base ls h.0))) i
      ∷ reservation_of-range_changed most (from + q.size) to ls rs t.3 i

pub filled_at-others : (base : ℕ) → LeavesOthers base (filled_at base)
filled_at-others base r differs =
    λ i. record { base = r.base; size = r.size; filled = cond (differs i) (r.filled + 1) r.filled; released = r.released }

pub released_at-others : (base : ℕ) → LeavesOthers base (released_at base)
released_at-others base r differs = λ i. record { base = r.base; size = r.size; filled = r.filled; released = cond (differs i) true r.released }
