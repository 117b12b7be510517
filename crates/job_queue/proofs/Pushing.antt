-- The first pass puts places and marks: that keeps the rule of the queue. `v` is what it knows before.
use Rattle.std.proofs.Common.{◌≡◌, ◌≢◌, ◌≤◌, ◌+◌, ℕ, true, true≢false, List, [], ◌∷◌, length, set, sym, refl, ap, ◌∙◌, subst, ⊎_elim, arith, length-append}
use mathlib.Core.Option.{some}
use lib.ListN.{get_elem?}
use Rattle.crossbeam_queue.specs.Fifo.{Pushes, Learns}
use Rattle.crossbeam_queue.proofs.Lists.{at_set, set_here}
use Rattle.lsn_space.proofs.ListLemmas.{everywhere-singleton, summed-set, summed-two_members_le}
use Rattle.lsn_space.specs.Lists.{summed}
use Rattle.job_queue.specs.declared.takings.Takings.{Takings}
use Rattle.job_queue.specs.Takings.{fresh, put_place, put_mark, times_in}
use Rattle.job_queue.specs.Rule.{HasCount, lives, marks_left_of, IsInOrder, IsEmptyIfSpent, IsShared}
use Rattle.job_queue.proofs.Counting.{counted-push, get_elem-within, everywhere-set}
use Rattle.job_queue.proofs.FirstPass.{lives-one, IsBoss-first_pass}

pub IsShared-fresh : IsShared [] (fresh true 0 0 0 0 ∷ [])
IsShared-fresh = record {
  next = 0;
  first_pass = fresh true 0 0 0 0;
  first = refl;
  first_pass_lives = refl;
  put = refl;
  items_are = refl;
  once = λ x. refl;
  out = refl;
  budget = refl;
  counts = everywhere-singleton (HasCount 0) (fresh true 0 0 0 0) (λ on. refl);
  early = λ le. refl;
  late = λ le. refl;
  spent = everywhere-singleton IsEmptyIfSpent (fresh true 0 0 0 0) (λ off. absurd (true≢false off));
  in_order = everywhere-singleton (IsInOrder 0) (fresh true 0 0 0 0) (tt, tt);
}

-- no other pass lives while places are put
other-none : (views : List Takings) (me : ℕ) (v u : Takings) (j : ℕ) → get_elem? views me ≡ some v → get_elem? views j ≡ some u → j ≢ me
    → v.live ≡ true → u.live ≡ true → summed lives views ≡ 1 → ⊥
other-none views me v u j at there other on lives' alone =
    absurd (omega (arith, summed-two_members_le lives views me j v u at there other, lives-one v on, lives-one u lives', alone))

pub IsShared-pushes_place : (n me : ℕ) (v : Takings) (x : ℕ) → me ≡ 0 → x ≡ v.count → v.marks ≡ 0 → v.out ≡ 0
    → Pushes IsShared n me v x (λ w. w ≡ put_place v)
IsShared-pushes_place n me v x here next unmarked none items views _ s at =
    let w : Takings = put_place v in let first_pass = IsBoss-first_pass items views me v s at here in
    let count = first_pass.count in let marks = first_pass.marks in let out = first_pass.out in
    let sum = summed-set marks_left_of views me v w at in let all = s.put in (
      w,
      record {
        next = s.next;
        first_pass = w;
        first = subst (λ i. get_elem? (set views me w) i ≡ some w) here (set_here views me w (get_elem-within views me v at));
        first_pass_lives = first_pass.live;
        put = omega (arith, length-append items (x ∷ []));
        items_are = counted-push s.next items x s.items_are (omega arith);
        once = λ y. omega (arith, s.once y, summed-set (times_in y) views me v w at);
        out = omega (arith, s.out, summed-set lives views me v w at);
        budget = first_pass.budget;
        counts = λ j u there lives'. ⊎_elim (λ (t : (j ≡ me) × (w ≡ u)). ap (λ (z : Takings). z.count) (sym t.1))
            (λ (t : (j ≢ me) × (get_elem? views j ≡ some u)).
            absurd (other-none views me v u j at t.1 t.0 first_pass.live lives' (omega (arith, s.out, out, none)))) (at_set views me j w u there);
        early = λ le. let was = s.early (omega arith) in omega arith;
        late = λ le. absurd (omega arith);
        spent = everywhere-set IsEmptyIfSpent IsEmptyIfSpent views me w s.spent (s.spent me v at) (λ u h. h);
        in_order = everywhere-set (IsInOrder s.next) (IsInOrder s.next) views me w s.in_order (s.in_order me v at) (λ u h. h);
      },
      refl,
    )

pub IsShared-pushes_mark : (n me : ℕ) (v : Takings) (x : ℕ) → me ≡ 0 → x ≡ v.count + v.marks → Pushes IsShared n me v x (λ w. w ≡ put_mark v)
IsShared-pushes_mark n me v x here next items views _ s at =
    let w : Takings = put_mark v in let first_pass = IsBoss-first_pass items views me v s at here in
    let count = first_pass.count in let marks = first_pass.marks in let sum = summed-set marks_left_of views me v w at in let all = s.put in (
      w,
      record {
        next = s.next;
        first_pass = w;
        first = subst (λ i. get_elem? (set views me w) i ≡ some w) here (set_here views me w (get_elem-within views me v at));
        first_pass_lives = first_pass.live;
        put = omega (arith, length-append items (x ∷ []));
        items_are = counted-push s.next items x s.items_are (omega arith);
        once = λ y. omega (arith, s.once y, summed-set (times_in y) views me v w at);
        out = omega (arith, s.out, summed-set lives views me v w at, first_pass.out);
        budget = omega (arith, first_pass.budget);
        counts = everywhere-set (HasCount s.first_pass.count) (HasCount v.count) views me w s.counts
            (λ on. refl) (λ u h on. h on ∙ count);
        early = λ le. let was = s.early (omega arith) in omega arith;
        late = λ le. let was = s.late (omega arith) in omega arith;
        spent = everywhere-set IsEmptyIfSpent IsEmptyIfSpent views me w s.spent (s.spent me v at) (λ u h. h);
        in_order = everywhere-set (IsInOrder s.next) (IsInOrder s.next) views me w s.in_order (s.in_order me v at) (λ u h. h);
      },
      refl,
    )

-- the queue holds no more than was put
pub Learns-length_le : (me : ℕ) (v : Takings) → me ≡ 0 → Learns IsShared me v (λ items. length items ≤ v.count + v.marks)
Learns-length_le me v here items views s at = let first_pass = IsBoss-first_pass items views me v s at here in omega (arith, s.put, first_pass.count, first_pass.marks)
