-- A pass takes what is next: that keeps the rule of the queue. `me` is the pass's number and `v` what it knows before.
use Rattle.std.proofs.Common.{◌≡◌, ◌≢◌, ◌⊎◌, ◌<◌, ◌≤◌, ◌+◌, ℕ, suc, cond, true, true≢false, List, [], ◌∷◌, length, set, sym, refl, ap, ◌∙◌, subst, ⊎_elim, inl, inr, arith, length-append}
use Rattle.std.specs.List.{AllByRecursion}
use mathlib.Core.Logic.{dite}
use native.Mathlib.Decide.{ℕ_discrete, dec_lt, dec_le}
use mathlib.Core.Option.{some}
use lib.ListN.{get_elem?}
use Rattle.crossbeam_queue.specs.Fifo.{Pops, Learns}
use Rattle.crossbeam_queue.proofs.Lists.{set_here, set_else}
use Rattle.lsn_space.proofs.TilingLemmas.{all-weaken, all-append}
use Rattle.lsn_space.proofs.ListLemmas.{summed-set, summed-member_le}
use Rattle.txn_jobs.proofs.Rising.{Rises-push}
use Rattle.job_queue.specs.declared.takings.Takings.{Takings}
use Rattle.job_queue.specs.Takings.{took_place, took_mark, TakesNext, same, times_in, CountsMarks}
use Rattle.job_queue.specs.Rule.{HasCount, lives, marks_left_of, IsInOrder, IsEmptyIfSpent, IsShared}
use Rattle.job_queue.proofs.Counting.{counted-first, once_below-suc, times-push, get_elem-within, everywhere-set}
use Rattle.job_queue.proofs.FirstPass.{first_pass-same}

-- what changes of a pass that takes the number `next`
record Took (next : ℕ) (v w : Takings) : Type 0 where
  pub live : w.live ≡ v.live
  pub count : w.count ≡ v.count
  pub marks : w.marks ≡ v.marks
  pub out : w.out ≡ v.out
  pub times : (y : ℕ) → times_in y w ≡ times_in y v + same y next
  pub left : ((next < v.count) × (w.marks_left ≡ v.marks_left)) ⊎ ((v.count ≤ next) × (w.marks_left + 1 ≡ v.marks_left))
  pub budget : CountsMarks v → CountsMarks w
  pub order : IsInOrder next v → IsInOrder (suc next) w

still-below : (next : ℕ) (places : List ℕ) → AllByRecursion (λ y. y < next) places → AllByRecursion (λ y. y < suc next) places
still-below next places all = all-weaken (λ y. y < next) (λ y. y < suc next) places (λ y less. omega (arith, less)) all

IsInOrder-place : (next : ℕ) (v : Takings) → IsInOrder next v → IsInOrder (suc next) (took_place next v)
IsInOrder-place next v order = (
  Rises-push v.places next order.0 order.1,
  all-append (λ y. y < suc next) v.places (next ∷ []) (still-below next v.places order.1) (omega arith, tt),
)

Took-place : (next : ℕ) (v : Takings) → next < v.count → Took next v (took_place next v)
Took-place next v less = record {
  live = refl;
  count = refl;
  marks = refl;
  out = refl;
  times = λ y. omega (arith, times-push y v.places next);
  left = inl (less, refl);
  budget = λ same. same;
  order = IsInOrder-place next v;
}

Took-mark : (next : ℕ) (v : Takings) → v.count ≤ next → 1 ≤ v.marks_left → Took next v (took_mark next v)
Took-mark next v more some' = record {
  live = refl;
  count = refl;
  marks = refl;
  out = refl;
  times = λ y. omega (arith, times-push y v.own_marks next);
  left = inr (more, omega (arith, some'));
  budget = λ same. omega (arith, same, some', length-append v.own_marks (next ∷ []));
  order = λ order. (order.0, still-below next v.places order.1);
}

-- the first view, where one view changes but for what it put and handed out
record KeepsFirstPass (views : List Takings) (first_pass : Takings) : Type 0 where
  pub now : Takings
  pub first : get_elem? views 0 ≡ some now
  pub live : now.live ≡ first_pass.live
  pub count : now.count ≡ first_pass.count
  pub marks : now.marks ≡ first_pass.marks
  pub out : now.out ≡ first_pass.out
  pub budget : CountsMarks now

module _ (items : List ℕ) (views : List Takings) (me : ℕ) (v w : Takings) (next : ℕ) (s : IsShared items views)
    (at : get_elem? views me ≡ some v) (took : Took next v w) where
  first_pass-here : me ≡ 0 → KeepsFirstPass (set views me w) s.first_pass
  first_pass-here here = let first_pass = sym (first_pass-same items views me v s at here) in record {
    now = w;
    first = subst (λ i. get_elem? (set views me w) i ≡ some w) here (set_here views me w (get_elem-within views me v at));
    live = took.live ∙ ap (λ (u : Takings). u.live) first_pass;
    count = took.count ∙ ap (λ (u : Takings). u.count) first_pass;
    marks = took.marks ∙ ap (λ (u : Takings). u.marks) first_pass;
    out = took.out ∙ ap (λ (u : Takings). u.out) first_pass;
    budget = took.budget (subst CountsMarks (sym first_pass) s.budget);
  }

  first_pass-away : me ≢ 0 → KeepsFirstPass (set views me w) s.first_pass
  first_pass-away away = record {
    now = s.first_pass;
    first = set_else views me 0 w (λ e. away (sym e)) ∙ s.first;
    live = refl;
    count = refl;
    marks = refl;
    out = refl;
    budget = s.budget;
  }

  first_pass-stays : KeepsFirstPass (set views me w) s.first_pass
  first_pass-stays = dite (ℕ_discrete me 0) first_pass-here first_pass-away

-- the rule is kept where a pass takes the least number that is left
keeps : (me : ℕ) (v w : Takings) (x : ℕ) (items : List ℕ) (views : List Takings) → v.live ≡ true → (s : IsShared (x ∷ items) views)
    → get_elem? views me ≡ some v → x ≡ s.next → Took s.next v w → IsShared items (set views me w)
keeps me v w x items views on s at number took =
    let first_pass = first_pass-stays (x ∷ items) views me v w s.next s at took in let count = s.counts me v at on in
    let sum = summed-set marks_left_of views me v w at in let all = s.put in let bc = first_pass.count in let bm = first_pass.marks in record {
      next = suc s.next;
      first_pass = first_pass.now;
      first = first_pass.first;
      first_pass_lives = first_pass.live ∙ s.first_pass_lives;
      put = omega arith;
      items_are = (counted-first x s.next items s.items_are).1;
      once = λ y. omega (arith, s.once y, once_below-suc y s.next, took.times y, summed-set (times_in y) views me v w at);
      out = omega (arith, s.out, summed-set lives views me v w at, first_pass.out, ap (λ b. cond {A = ℕ} b 1 0) took.live);
      budget = first_pass.budget;
      counts = everywhere-set (HasCount s.first_pass.count) (HasCount first_pass.now.count) views me w s.counts
          (λ on'. took.count ∙ count ∙ sym first_pass.count) (λ u h on'. h on' ∙ sym first_pass.count);
      early = λ le. ⊎_elim (λ t. let kept = t.1 in let was = s.early (omega arith) in omega arith)
          (λ t. let high = t.0 in absurd (omega arith)) took.left;
      late = λ le. ⊎_elim (λ t. let low = t.0 in let kept = t.1 in let was = s.early (omega arith) in omega arith)
          (λ t. let high = t.0 in let one = t.1 in let was = s.late (omega arith) in omega arith) took.left;
      spent = everywhere-set IsEmptyIfSpent IsEmptyIfSpent views me w s.spent
          (λ off. absurd (true≢false (sym (took.live ∙ on) ∙ off))) (λ u h. h);
      in_order = everywhere-set (IsInOrder s.next) (IsInOrder (suc s.next)) views me w s.in_order (took.order (s.in_order me v at))
          (λ u h. (h.0, still-below s.next u.places h.1));
    }

-- which is a place, or a mark
module _ (me : ℕ) (v : Takings) (on : v.live ≡ true) (x : ℕ) (items : List ℕ) (views : List Takings) (s : IsShared (x ∷ items) views)
    (at : get_elem? views me ≡ some v) where
  number : x ≡ s.next
  number = (counted-first x s.next items s.items_are).0

  gets-place : s.next < v.count → (w : Takings) × IsShared items (set views me w) × TakesNext v x w
  gets-place less = (
    took_place s.next v,
    keeps me v (took_place s.next v) x items views on s at number (Took-place s.next v less),
    inl (
      omega (arith, number, less),
      subst (λ n. AllByRecursion (λ place. place < n) v.places) (sym number) (s.in_order me v at).1,
      ap (λ n. took_place n v) (sym number),
    ),
  )

  gets-mark : 1 ≤ v.marks_left → v.count ≤ s.next → (w : Takings) × IsShared items (set views me w) × TakesNext v x w
  gets-mark some' more = (
    took_mark s.next v,
    keeps me v (took_mark s.next v) x items views on s at number (Took-mark s.next v more some'),
    inr (omega (arith, number, more), ap (λ n. took_mark n v) (sym number)),
  )

pub IsShared-pops_next : (me : ℕ) (v : Takings) → v.live ≡ true → 1 ≤ v.marks_left → Pops IsShared me v (TakesNext v)
IsShared-pops_next me v on some' x items views s at = dite (dec_lt s.next v.count) (gets-place me v on x items views s at)
    (λ more. gets-mark me v on x items views s at some' (omega (arith, more)))

-- while a mark may be taken, the queue holds something
pub Learns-holds_some : (me : ℕ) (v : Takings) → Learns IsShared me v (λ items. 1 ≤ v.marks_left → 1 ≤ length items)
Learns-holds_some me v items views s at some' =
    let one = summed-member_le marks_left_of views me v at in let all = s.put in dite (dec_le s.next s.first_pass.count)
    (λ le. let was = s.early le in omega arith) (λ more. let was = s.late (omega arith) in omega arith)
