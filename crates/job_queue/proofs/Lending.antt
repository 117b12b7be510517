-- A worker's pass is made of the first, and taken back: that keeps the rule of the queue. `me` is the first pass's number and `v` what it
-- knows before.
use Rattle.std.proofs.Common.{◌≡◌, ◌≢◌, ◌≤◌, ◌+◌, ℕ, true, false, true≢false, List, [], ◌∷◌, ◌++◌, length, set, sym, refl, ◌∙◌, subst, ⊎_elim, arith, length-append}
use mathlib.Core.Option.{some}
use lib.ListN.{get_elem?}
use Rattle.crossbeam_queue.specs.Fifo.{Forks, Merges}
use Rattle.crossbeam_queue.proofs.Lists.{at_set, set_here, set_else, at_longer}
use Rattle.lsn_space.proofs.ListLemmas.{summed-set, summed-two_members_le, summed-push}
use Rattle.lsn_space.specs.Lists.{summed}
use Rattle.job_queue.specs.declared.takings.Takings.{Takings}
use Rattle.job_queue.specs.Takings.{fresh, handed_out, worker_of, took_back, times_in, CountsMarks}
use Rattle.job_queue.specs.Rule.{HasCount, lives, marks_left_of, IsInOrder, IsEmptyIfSpent, IsShared}
use Rattle.job_queue.proofs.Counting.{times-append, get_elem-within, everywhere-set, everywhere-snoc}
use Rattle.job_queue.proofs.FirstPass.{lives-one, IsBoss-first_pass}

pub IsShared-forks : (me : ℕ) (v : Takings) → me ≡ 0 → 1 ≤ v.marks_left → Forks IsShared me v (handed_out v) (worker_of v)
IsShared-forks me v here some' items views s at =
    let w : Takings = handed_out v in let new : Takings = worker_of v in
    let first_pass = IsBoss-first_pass items views me v s at here in let vs : List Takings = set views me w in
    let count = first_pass.count in let marks = first_pass.marks in
    let sum = summed-set marks_left_of views me v w at in let sum' = summed-push marks_left_of vs new in let all = s.put in record {
      next = s.next;
      first_pass = w;
      first = at_longer vs (new ∷ []) 0 w (subst (λ i. get_elem? vs i ≡ some w) here (set_here views me w (get_elem-within views me v at)));
      first_pass_lives = first_pass.live;
      put = omega arith;
      items_are = s.items_are;
      once = λ y. omega (arith, s.once y, summed-set (times_in y) views me v w at, summed-push (times_in y) vs new);
      out = omega (arith, s.out, summed-set lives views me v w at, summed-push lives vs new, first_pass.out);
      budget = omega (arith, first_pass.budget, some');
      counts = everywhere-snoc (HasCount v.count) vs new
          (everywhere-set (HasCount s.first_pass.count) (HasCount v.count) views me w s.counts
          (λ on. refl) (λ u h on. h on ∙ count)) (λ on. refl);
      early = λ le. let was = s.early (omega arith) in omega arith;
      late = λ le. let was = s.late (omega arith) in omega arith;
      spent = everywhere-snoc IsEmptyIfSpent vs new
          (everywhere-set IsEmptyIfSpent IsEmptyIfSpent views me w s.spent (s.spent me v at) (λ u h. h)) (λ off. absurd (true≢false off));
      in_order = everywhere-snoc (IsInOrder s.next) vs new
          (everywhere-set (IsInOrder s.next) (IsInOrder s.next) views me w s.in_order (s.in_order me v at) (λ u h. h)) (tt, tt);
    }

abbrev pub nobody : Takings
nobody = fresh false 0 0 0 0

-- how often a number stands in what one pass has with what it took back
times-back : (v u : Takings) (y : ℕ) → times_in y (took_back v u) ≡ times_in y v + times_in y u
times-back v u y = omega (
  arith,
  times-append y v.places_back (u.places ++ u.places_back),
  times-append y u.places u.places_back,
  times-append y v.marks_back (u.own_marks ++ u.marks_back),
  times-append y u.own_marks u.marks_back,
)

-- the marks are counted still, once a pass is back that took its mark, or may take it
budget-back : (v u : Takings) → 1 ≤ v.out → u.marks_left + (length u.own_marks + length u.marks_back) ≡ 1 → CountsMarks v
    → CountsMarks (took_back v u)
budget-back v u some' one counts = omega (
  arith,
  some',
  one,
  counts,
  length-append v.marks_back (u.own_marks ++ u.marks_back),
  length-append u.own_marks u.marks_back,
)

pub IsShared-merges : (me : ℕ) (v : Takings) (other : ℕ) (u : Takings) → me ≡ 0 → u.live ≡ true
    → u.marks_left + (length u.own_marks + length u.marks_back) ≡ 1 → Merges IsShared me v other u (took_back v u) nobody
IsShared-merges me v other u here on one items views s at two at' =
    let w : Takings = took_back v u in let vs : List Takings = set views me w in
    let first_pass = IsBoss-first_pass items views me v s at here in
    let was : get_elem? views other ≡ some u =
    ⊎_elim (λ (t : (other ≡ me) × (w ≡ u)). absurd (two t.0)) (λ (t : (other ≢ me) × (get_elem? views other ≡ some u)). t.1)
    (at_set views me other w u at') in
    let both : lives v + lives u ≤ summed lives views = summed-two_members_le lives views me other v u at was two in
    let weight = lives-one u on in let mine = lives-one v first_pass.live in
    let sum = summed-set lives views me v w at in let sum' = summed-set lives vs other u nobody at' in
    let out = first_pass.out in let count = first_pass.count in let marks = first_pass.marks in let lives_all = s.out in
    let tick = summed-set marks_left_of views me v w at in let tick' = summed-set marks_left_of vs other u nobody at' in
    let all = s.put in record {
      next = s.next;
      first_pass = w;
      first = set_else vs other 0 nobody (λ e. two (sym e ∙ sym here))
          ∙ subst (λ i. get_elem? vs i ≡ some w) here (set_here views me w (get_elem-within views me v at));
      first_pass_lives = first_pass.live;
      put = omega arith;
      items_are = s.items_are;
      once = λ y. let one' = summed-set (times_in y) views me v w at in let other' = summed-set (times_in y) vs other u nobody at' in
          omega (arith, one', other', times-back v u y, s.once y);
      out = omega arith;
      budget = budget-back v u (omega arith) one first_pass.budget;
      counts = everywhere-set (HasCount v.count) (HasCount v.count) vs other nobody
          (everywhere-set (HasCount s.first_pass.count) (HasCount v.count) views me w s.counts
          (λ on'. refl) (λ z h on'. h on' ∙ count))
          (λ off. absurd (true≢false (sym off))) (λ z h. h);
      early = λ le. let was' = s.early (omega arith) in omega arith;
      late = λ le. let was' = s.late (omega arith) in omega arith;
      spent = everywhere-set IsEmptyIfSpent IsEmptyIfSpent vs other nobody
          (everywhere-set IsEmptyIfSpent IsEmptyIfSpent views me w s.spent (λ off. absurd (true≢false (sym first_pass.live ∙ off))) (λ z h. h))
          (λ off y. refl) (λ z h. h);
      in_order = everywhere-set (IsInOrder s.next) (IsInOrder s.next) vs other nobody
          (everywhere-set (IsInOrder s.next) (IsInOrder s.next) views me w s.in_order (s.in_order me v at) (λ z h. h)) (tt, tt) (λ z h. h);
    }
