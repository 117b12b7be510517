-- What the mark at an LSN in hand tells: whether a released range begins there, and where it tells of none, that exposed is there.
use Rattle.std.proofs.Common.{◌≡◌, ⊎_elim, ℕ, ◌+◌, ◌/◌, ◌%◌, ◌<◌, ◌≤◌, nat_lt, Bool, true, false, true≢false, lt-ltb, le-ltb, List, [], ◌∷◌, ◌++◌}
use Rattle.std.proofs.Common.{map, Some, None, sym, refl, ap, ◌∙◌, subst, le_refl, arith, append_assoc}
use Rattle.std.specs.List.{AllByRecursion, find}
use Rattle.std.specs.Option.{option_map_or}
use mathlib.Core.Logic.{dite}
use native.Mathlib.Decide.{dec_lt}
use Rattle.ring_core.specs.RingLog.{is_marked}
use Rattle.ring_core.specs.State.{Reservation, is_at}
use Rattle.lsn_space.proofs.TilingLemmas.{all-weaken, all-append}
use Rattle.slot_core.proofs.Lists.{all-right_of_append}
use Rattle.log_rule.specs.declared.start.Start.{Start}
use Rattle.log_rule.specs.declared.view.View.{View}
use Rattle.log_rule.specs.Events.{reservation_of}
use Rattle.log_rule.specs.Log.{Duty, Shared, Owed, Released, LogRange, Log, ranges_of, is_released, IsReleased, IsRangeBoundary, Tiles}
use Rattle.log_rule.specs.Marks.{IsReady, IsCurrentMark, HasTrueMark, IsFirstReleased, IsPassed}
use Rattle.log_rule.specs.Sound.{IsSound}
use Rattle.log_rule.specs.Words.{Words}
use Rattle.log_rule.proofs.Lists.{all-middle}
use Rattle.log_rule.proofs.Loads.{all-tile}
use Rattle.log_rule.proofs.RangeLists.{tiles-le, tiles-split, tiles-within}
use Rattle.log_rule.proofs.MachineShown.{find-reservation_at_base, find-none_at_end}
use Rattle.log_rule.proofs.TrueMarks.{IsFirstReady, true_mark-above_exposed, current_mark-first_ready}

-- one of the ranges begins there, and this stands around it
pub record StartsAt (e : ℕ) (ranges : List LogRange) : Type 0 where
  pub before : List LogRange
  pub here : LogRange
  pub behind : List LogRange
  pub split : ranges ≡ before ++ here ∷ behind
  pub base : here.base ≡ e

-- a boundary is the base of a range, or the end of all
starts-at : (most from to e : ℕ) (ranges : List LogRange) → Tiles most from ranges to → IsRangeBoundary from ranges e → e < to → StartsAt e ranges
starts-at most from to e [] t boundary low = absurd (omega (arith, t, boundary, low))
starts-at most from to e (r ∷ rs) t boundary low = ⊎_elim
    (λ (here : e ≡ from). record { before = []; here = r; behind = rs; split = refl; base = t.0 ∙ sym here })
    (λ later. let more = starts-at most (from + r.size) to e rs t.3 later low in record {
      before = r ∷ more.before;
      here = more.here;
      behind = more.behind;
      split = ap (λ l. r ∷ l) more.split;
      base = more.base;
    }) boundary

duty-released : (duty : Duty) → is_released duty ≡ true → duty ≡ Released
duty-released (Shared slot) e = absurd (true≢false (sym e))
duty-released (Owed seat) e = absurd (true≢false (sym e))
duty-released Released e = refl

not-lt : (a b : ℕ) → (a < b → ⊥) → nat_lt a b ≡ false
not-lt a b none = dite (dec_lt a b) (λ lt. absurd (none lt)) (λ ge. le-ltb a b (omega (arith, ge)))

-- what the mark at an LSN in hand tells
module _ (key : Start) (words : Words) (views : List View) (log : Log) (s : IsSound key words views log) where
  abbrev size : ℕ
  size = key.ring

  abbrev shown : List Reservation
  shown = map (reservation_of log.parts) (ranges_of log)

  -- where a range begins, the machine sees whether it is released
  pub starts_at-reservation_found : (e : ℕ) (r : StartsAt e (ranges_of log)) → find (is_at e) shown ≡ Some (reservation_of log.parts r.here)
  starts_at-reservation_found e r = (λ i. find (is_at (sym r.base i)) (map (reservation_of log.parts) (r.split i)))
      ∙ find-reservation_at_base log.parts _ _ _ r.before r.behind r.here
      (subst (λ l. Tiles (size / 4) key.start l words.tail) r.split (all-tile _ _ _ _ _ log s.contiguous))

  sees-released : (e : ℕ) (r : StartsAt e (ranges_of log)) → is_marked e shown ≡ is_released r.here.duty
  sees-released e r = ap (λ o. option_map_or (λ (q : Reservation). q.released) o false) (starts_at-reservation_found e r)

  tiles : Tiles (size / 4) words.exposed log.ahead words.tail
  tiles = s.contiguous.to_tail

  true-ahead : AllByRecursion (HasTrueMark size words.mark) log.ahead
  true-ahead = all-right_of_append (HasTrueMark size words.mark) log.exposed log.ahead
      (all-right_of_append (HasTrueMark size words.mark) log.flushed (log.exposed ++ log.ahead) s.marks.true_marks)

  current-now : IsCurrentMark size words.mark log.ahead words.exposed
  current-now = s.marks.current words.exposed (le_refl _) (omega (arith, s.ordered.least_ring))

  -- the first range ahead is released exactly where the mark at exposed is above exposed
  pub first_released-mark_above : IsFirstReleased log.ahead → words.exposed < words.mark (words.exposed % size)
  first_released-mark_above = true_mark-above_exposed (size / 4) size words.exposed words.tail words.mark log.ahead tiles true-ahead

  pub mark_above-first_ready : words.exposed < words.mark (words.exposed % size) → IsFirstReady words.exposed (words.mark (words.exposed % size)) log.ahead
  mark_above-first_ready = current_mark-first_ready (size / 4) size words.exposed words.tail words.mark log.ahead tiles current-now

  -- what lies below exposed is released
  released-below : AllByRecursion (λ (r : LogRange). r.base < words.exposed → IsReleased r) (ranges_of log)
  released-below = subst (AllByRecursion (λ (r : LogRange). r.base < words.exposed → IsReleased r)) (append_assoc log.flushed log.exposed log.ahead)
      (all-append (λ (r : LogRange). r.base < words.exposed → IsReleased r) (log.flushed ++ log.exposed) log.ahead
      (all-weaken IsReleased (λ (r : LogRange). r.base < words.exposed → IsReleased r) (log.flushed ++ log.exposed) (λ r is _. is) s.below.ranges)
      (tiles-within (λ _. Unit {0}) (λ (r : LogRange). r.base < words.exposed → IsReleased r) _ _ _ log.ahead tiles (anything log.ahead)
      (λ r _ _ lo _ low. absurd (omega (arith, lo, low)))))
    where
      anything : (ranges : List LogRange) → AllByRecursion (λ _. Unit {0}) ranges
      anything [] = tt
      anything (r ∷ rs) = (tt, anything rs)

  -- An older LSN always has a mark above it, at a range that is released.
  pub below_exposed-marked : (e : ℕ) → IsRangeBoundary key.start (ranges_of log) e → e < words.exposed
      → (e < words.mark (e % size)) × (is_marked e shown ≡ true)
  below_exposed-marked e boundary low = found (starts-at _ _ _ e (ranges_of log) (all-tile _ _ _ _ _ log s.contiguous) boundary (omega (arith, low, tiles-le _ _ _ log.ahead tiles)))
    where
      found : StartsAt e (ranges_of log) → (e < words.mark (e % size)) × (is_marked e shown ≡ true)
      found r =
          let all = subst (λ l. Tiles (size / 4) key.start l words.tail) r.split (all-tile _ _ _ _ _ log s.contiguous) in
          let is = all-middle (λ (q : LogRange). q.base < words.exposed → IsReleased q) r.before r.behind r.here
          (subst (AllByRecursion (λ (q : LogRange). q.base < words.exposed → IsReleased q)) r.split released-below) (omega (arith, r.base, low)) in
          let high = all-middle (HasTrueMark size words.mark) r.before r.behind r.here
          (subst (AllByRecursion (HasTrueMark size words.mark)) r.split s.marks.true_marks) is in
          let same : words.mark (r.here.base % size) ≡ words.mark (e % size) = ap (λ n. words.mark (n % size)) r.base in
          let some' = (tiles-split _ _ _ r.before r.behind r.here all).1 in (
            omega (arith, high, same, r.base, some'),
            sees-released e r ∙ ap is_released is,
          )

  -- whether the range at exposed is released, the machine sees as the mark tells
  new-look : is_marked words.exposed shown ≡ nat_lt words.exposed (words.mark (words.exposed % size))
  new-look = by_ahead log.ahead refl
    where
      unmarked : (is_marked words.exposed shown ≡ false) → (words.exposed < words.mark (words.exposed % size) → ⊥)
          → is_marked words.exposed shown ≡ nat_lt words.exposed (words.mark (words.exposed % size))
      unmarked is low = is ∙ sym (not-lt words.exposed (words.mark (words.exposed % size)) low)

      by_ahead : (ranges : List LogRange) → log.ahead ≡ ranges → is_marked words.exposed shown ≡ nat_lt words.exposed (words.mark (words.exposed % size))
      by_ahead [] is = unmarked
          (ap (λ o. option_map_or (λ (r : Reservation). r.released) o false)
          (subst (λ n. find (is_at n) shown ≡ None) (sym (subst (λ l. Tiles (size / 4) words.exposed l words.tail) is tiles))
          (find-none_at_end log.parts _ _ _ (ranges_of log) (all-tile _ _ _ _ _ log s.contiguous))))
          (λ high. subst (IsFirstReady words.exposed (words.mark (words.exposed % size))) is (mark_above-first_ready high))
      by_ahead (r ∷ rest) is = by_duty (is_released r.duty) refl
        where
          here : StartsAt words.exposed (ranges_of log)
          here = record {
            before = log.flushed ++ log.exposed;
            here = r;
            behind = rest;
            split = ap (λ l. log.flushed ++ (log.exposed ++ l)) is ∙ sym (append_assoc log.flushed log.exposed (r ∷ rest));
            base = (subst (λ l. Tiles (size / 4) words.exposed l words.tail) is tiles).0;
          }

          by_duty : (b : Bool) → is_released r.duty ≡ b → is_marked words.exposed shown ≡ nat_lt words.exposed (words.mark (words.exposed % size))
          by_duty true done = sees-released words.exposed here ∙ (done
              ∙ sym (lt-ltb words.exposed (words.mark (words.exposed % size)) (first_released-mark_above (subst IsFirstReleased (sym is) (duty-released r.duty done)))))
          by_duty false open' = unmarked (sees-released words.exposed here ∙ open')
              (λ high. let ready : IsReady words.exposed (words.mark (words.exposed % size)) r =
              subst (IsFirstReady words.exposed (words.mark (words.exposed % size))) is (mark_above-first_ready high) in
              true≢false (sym (ap is_released ready.released) ∙ open'))

  -- So the load of a mark is the machine's look at it. A mark that is not above the LSN tells that it is exposed itself, and that the range that
  -- begins there, if there is one, is not released.
  pub is_marked-mark_above : (e : ℕ) → IsPassed key.start words.exposed log e → is_marked e shown ≡ nat_lt e (words.mark (e % size))
  is_marked-mark_above e passed = dite (dec_lt e words.exposed)
      (λ old. let look = below_exposed-marked e passed.boundary old in look.1 ∙ sym (lt-ltb e (words.mark (e % size)) look.0))
      (λ now. let is : e ≡ words.exposed = omega (arith, now, passed.passed) in
      subst (λ n. is_marked n shown ≡ nat_lt n (words.mark (n % size))) (sym is) new-look)

  pub mark_not_above-at_exposed : (e : ℕ) → IsPassed key.start words.exposed log e → words.mark (e % size) ≤ e
      → (e ≡ words.exposed) × (IsFirstReleased log.ahead → ⊥)
  mark_not_above-at_exposed e passed low = dite (dec_lt e words.exposed)
      (λ old. absurd (omega (arith, low, (below_exposed-marked e passed.boundary old).0)))
      (λ now. let is : e ≡ words.exposed = omega (arith, now, passed.passed) in
      let same : words.mark (e % size) ≡ words.mark (words.exposed % size) = ap (λ n. words.mark (n % size)) is in
      (is, (λ first. omega (arith, first_released-mark_above first, same, is, low))))
