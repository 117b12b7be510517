-- What passes know, after one step more.
use Rattle.std.proofs.Common.{◌≡◌, ◌<◌, ◌≤◌, ◌+◌, ℕ, List, [], ◌∷◌, length, Option, Some, IsSomeAnd, sym, ap, ◌∙◌, subst, ⊎_elim, arith, length-append}
use Rattle.std.specs.List.{AllByRecursion}
use Rattle.crossbeam_queue.specs.Passes.{Pass, IsPassOf, IsSamePass}
use Rattle.lsn_space.proofs.TilingLemmas.{all-append}
use Rattle.job_queue.specs.declared.queue.Queue.{Queue}
use Rattle.job_queue.specs.declared.rows.Rows.{Rows}
use Rattle.txn_jobs.proofs.Rising.{Rises-push}
use Rattle.job_queue.specs.declared.takings.Takings.{Takings}
use Rattle.job_queue.specs.Takings.{took_place, took_mark, TakesNext, times, once_below, HasAllBelow, AreMarks, IsWorkers, IsFirst}
use Rattle.job_queue.specs.Passes.{pass_in, IsWorkersPass, HasPassOf, AreAllTaken}
use Rattle.job_queue.proofs.Counting.{once_below-positive_less, same-refl}

-- a pass of the queue stays one
pub IsPassOf-same_pass : (queue : Queue) (old new : Pass ℕ Takings) → IsPassOf queue.line old → IsSamePass old new → IsPassOf queue.line new
IsPassOf-same_pass queue old new was same = (same.0 ∙ was.0, same.2 ∙ was.1)

-- the rows' pass is one of this queue
pub HasPassOf-workers_pass : (queue : Queue) (rows : Rows) (found : Option (Pass ℕ Takings)) (pass : Pass ℕ Takings) → HasPassOf queue rows
    → found ≡ pass_in rows → found ≡ Some pass → IsWorkersPass queue pass
HasPassOf-workers_pass queue rows found pass has same is = subst (λ option. IsSomeAnd option (IsWorkersPass queue)) (sym same ∙ is) has

-- ---- a worker's pass

one-left : (count : ℕ) (v : Takings) → IsWorkers count v → v.own_marks ≡ [] → v.marks_left ≡ 1
one-left count v is none = omega (arith, is.one_mark, ap length none)

pub IsWorkers-mark_left : (count : ℕ) (v : Takings) → IsWorkers count v → v.own_marks ≡ [] → 1 ≤ v.marks_left
IsWorkers-mark_left count v is none = omega (arith, one-left count v is none)

after-place : (count x : ℕ) (v : Takings) → IsWorkers count v → x < v.count → AllByRecursion (λ place. place < x) v.places
    → IsWorkers count (took_place x v)
after-place count x v is within above = record {
  live = is.live;
  count_is = is.count_is;
  rising = Rises-push v.places x is.rising above;
  places = all-append (λ place. place < count) v.places (x ∷ []) is.places (omega (arith, within, is.count_is), tt);
  marks = is.marks;
  one_mark = is.one_mark;
  none_back = is.none_back;
}

after-mark : (count x : ℕ) (v : Takings) → IsWorkers count v → v.own_marks ≡ [] → v.count ≤ x → IsWorkers count (took_mark x v)
after-mark count x v is none behind = record {
  live = is.live;
  count_is = is.count_is;
  rising = is.rising;
  places = is.places;
  marks = all-append (λ mark. count ≤ mark) v.own_marks (x ∷ []) is.marks (omega (arith, behind, is.count_is), tt);
  one_mark = omega (arith, one-left count v is none, ap length none, length-append v.own_marks (x ∷ []));
  none_back = is.none_back;
}

pub IsWorkers-took : (count x : ℕ) (v w : Takings) → IsWorkers count v → v.own_marks ≡ [] → TakesNext v x w → IsWorkers count w
IsWorkers-took count x v w is none takes =
    ⊎_elim (λ place. subst (IsWorkers count) (sym place.2) (after-place count x v is place.0 place.1))
    (λ mark. subst (IsWorkers count) (sym mark.1) (after-mark count x v is none mark.0)) takes

-- ---- the first pass

pub IsFirst-mark_left : (count : ℕ) (v : Takings) → IsFirst count v → v.out + length v.marks_back < v.marks → 1 ≤ v.marks_left
IsFirst-mark_left count v is few = omega (arith, is.budget, few, ap length is.none.1)

module _ (count : ℕ) (v u : Takings) (is : IsFirst count v) (own : IsWorkers count u) where
  -- the pass that comes back took one mark, or may take one
  pub IsWorkers-one_mark : u.marks_left + (length u.own_marks + length u.marks_back) ≡ 1
  IsWorkers-one_mark = omega (arith, own.one_mark, ap length own.none_back.1)

-- where a mark was taken, so was each place
first-mark : (count next : ℕ) (marks : List ℕ) → AreMarks count marks → 1 ≤ length marks
    → ((x : ℕ) → times x marks ≤ once_below x next) → count < next
first-mark count next [] are some' once = absurd (omega (arith, some'))
first-mark count next (mark ∷ marks) are some' once = omega (arith, are.0, once_below-positive_less mark next (omega (arith, once mark, same-refl mark)))

pub IsFirst-all_taken : (count : ℕ) (v : Takings) → IsFirst count v → HasAllBelow v → AreAllTaken count v.places_back v.marks_back
IsFirst-all_taken count v is all = record {
  next = all.next;
  once = λ x. omega (arith, all.once x, ap (times x) is.none.0, ap (times x) is.none.1);
  all = λ some'. first-mark count all.next v.marks_back is.marks some' (λ x. omega (arith, all.once x));
}
