-- Members: the one that fills or goes, and the others.
use Rattle.std.proofs.Common.{◌≡◌, ◌≢◌, ℕ, ◌==◌, ◌+◌, ◌≤◌, cond, Bool, true, false, List, [], ◌∷◌, ◌++◌, refl, sym, ap, ◌∙◌, subst, arith, eq-eqb, eqb-true, ne_eqb}
use Rattle.std.specs.List.{AllByRecursion}
use Rattle.ring_core.specs.RingLog.{RingLog}
use Rattle.slot_core.specs.State.{GroupPhase, MemberStage, Closes, Waits, Places, Stores, Tells, Fills, Leaves, Task, Joined, InRing, Hand, Member, task_of, with_task, without}
use Rattle.slot_core.specs.Members.{seat_in, is_of, extent_of, seats_of, IsGranted, IsTold, HasHeard, HasHeardAt}
use Rattle.slot_core.specs.Groups.{units_at, units_in, units_of, sum_of, LieApart}
use Rattle.slot_core.specs.Laws.{FitsPiece, IsTrueTask}
use Rattle.slot_core.proofs.Lists.{Split, picked_single-split, picked-append, picked-without_unpicked, picked-append_none, all-left_of_append, all-right_of_append}
use Rattle.slot_core.proofs.Hands.{task_of-with_task_self, units-with_task_absent, units-append}

-- the first member that is the actor's goes
without-split : (me : ℕ) (ls rs : List Member) (x : Member) → seats_of me ls ≡ [] → is_of me x ≡ true → without me (ls ++ x ∷ rs) ≡ ls ++ rs
without-split me [] rs x none has = ap (λ b. cond b rs (x ∷ without me rs)) has
without-split me (l ∷ ls) rs x none has = by_case (l.actor == me) refl none (without-split me ls rs x)
  where
    by_case : (b : Bool) → (l.actor == me) ≡ b → cond b (extent_of l ∷ seats_of me ls) (seats_of me ls) ≡ [] → (seats_of me ls ≡ [] → is_of me x
        ≡ true → without me (ls ++ x ∷ rs) ≡ ls ++ rs) → without me (l ∷ (ls ++ x ∷ rs)) ≡ l ∷ (ls ++ rs)
    by_case true is none go = absurd (cc)
    by_case false is none go = ap (λ b. cond b (ls ++ x ∷ rs) (l ∷ without me (ls ++ x ∷ rs))) is ∙ ap (λ z. l ∷ z) (go none has)

without-one : (me : ℕ) (ms : List Member) (y : ℕ × ℕ) (s : Split (is_of me) extent_of ms y) → without me ms ≡ s.ls ++ s.rs
without-one me ms y s = ap (without me) s.split ∙ without-split me s.ls s.rs s.x s.before s.has

sum-gone : (x : Member) (ls rs : List Member) → sum_of (ls ++ rs) + x.size ≡ sum_of (ls ++ x ∷ rs)
sum-gone x [] rs = omega arith
sum-gone x (l ∷ ls) rs = let rest = sum-gone x ls rs in omega (arith, rest)

apart-from : (a a' b : ℕ) (ms : List Member) → a' ≤ a → LieApart a ms b → LieApart a' ms b
apart-from a a' b [] le h = omega (arith, le, h)
apart-from a a' b (m ∷ ms) le h = (let first = h.0 in omega (arith, le, first), h.1, h.2)

apart-gone : (a b : ℕ) (x : Member) (ls rs : List Member) → LieApart a (ls ++ x ∷ rs) b → LieApart a (ls ++ rs) b
apart-gone a b x [] rs h = apart-from (x.offset + x.size) a b rs (let first = h.0 in omega (arith, first)) h.2
apart-gone a b x (l ∷ ls) rs h = (h.0, h.1, apart-gone (l.offset + l.size) b x ls rs h.2)

pub sum_zero-no_members : (a b : ℕ) (ms : List Member) → LieApart a ms b → sum_of ms ≡ 0 → ms ≡ []
sum_zero-no_members a b [] h e = refl
sum_zero-no_members a b (m ∷ ms) h e = let some' = h.1 in absurd (omega (arith, e, some'))

-- where the actor is a member, what is known of the members but it
pub record Left (me n : ℕ) (ms : List Member) : Type 0 where
  pub mine : seats_of me (without me ms) ≡ []
  pub others : (j : ℕ) → j ≢ me → seats_of j (without me ms) ≡ seats_of j ms
  pub sum : sum_of (without me ms) + n ≡ sum_of ms
  pub apart : (b : ℕ) → LieApart 0 ms b → LieApart 0 (without me ms) b
  pub units : (k : ℕ) (new : Task) (hands : List Hand) → units_of k (with_task me new hands) (without me ms) + units_in k (task_of me hands) ≡ units_of k hands ms

units-mid : (k : ℕ) (hands : List Hand) (ls rs : List Member) (x : Member) → units_of k hands (ls ++ x ∷ rs) ≡ units_of k hands ls + units_in k (task_of x.actor hands) + units_of k hands rs
units-mid k hands ls rs x = let h = units-append k hands ls (x ∷ rs) in omega (arith, h)

pub single_seat-left : (me a n : ℕ) (ms : List Member) → seats_of me ms ≡ (a, n) ∷ [] → Left me n ms
single_seat-left me a n ms h = let s = picked_single-split (is_of me) extent_of ms (a, n) h in let is = without-one me ms (a, n) s in let actor : s.x.actor ≡ me = eqb-true s.x.actor me s.has in
    let size : s.x.size ≡ n = ap (λ (p : ℕ × ℕ). p.1) s.is in record {
      mine = ap (seats_of me) is ∙ picked-append_none (is_of me) extent_of s.ls s.rs s.before s.after;
      others = λ j ne. ap (seats_of j) is ∙ (picked-without_unpicked (is_of j) extent_of s.ls s.rs s.x (ne_eqb s.x.actor j (λ e. ne (sym e ∙ actor))) ∙ ap (seats_of j) (sym s.split));
      sum = ap (λ l. sum_of l + n) is ∙ (ap (λ z. sum_of (s.ls ++ s.rs) + z) (sym size) ∙ (sum-gone s.x s.ls s.rs ∙ ap sum_of (sym s.split)));
      apart = λ b o. subst (λ l. LieApart 0 l b) (sym is) (apart-gone 0 b s.x s.ls s.rs (subst (λ l. LieApart 0 l b) s.split o));
      units = λ k new hands. let e = ap (units_of k (with_task me new hands)) is ∙ units-append k (with_task me new hands)
          s.ls s.rs in let l = units-with_task_absent k me new hands s.ls s.before in let r = units-with_task_absent k me new hands s.rs s.after in
          let f = ap (units_of k hands) s.split ∙ units-mid k hands s.ls s.rs s.x in let mid = ap (λ i. units_in k (task_of i hands)) actor in omega (arith, e, l, r, f, mid);
    }

-- where the actor fills
pub units-with_task_member : (k me a n : ℕ) (new : Task) (hands : List Hand) (ms : List Member) → seats_of me ms ≡ (a, n) ∷ [] → units_of k
    (with_task me new hands) ms + units_in k (task_of me hands) ≡ units_of k hands ms + units_in k new
units-with_task_member k me a n new hands ms h = let s = picked_single-split (is_of me) extent_of ms (a, n) h in let actor : s.x.actor ≡ me = eqb-true s.x.actor me s.has in
    let e = ap (units_of k (with_task me new hands)) s.split ∙ units-mid k (with_task me new hands)
    s.ls s.rs s.x in let l = units-with_task_absent k me new hands s.ls s.before in let r = units-with_task_absent k me new hands s.rs s.after in
    let f = ap (units_of k hands) s.split ∙ units-mid k hands s.ls s.rs s.x in let mid = ap (λ i. units_in k (task_of i hands)) actor in
    let now = ap (λ i. units_in k (task_of i (with_task me new hands))) actor ∙ ap (units_in k) (task_of-with_task_self me new hands) in omega (arith, e, l, r, f, mid, now)

-- what holds of each that stands in the list
each-split : {A : Type 0} → (P : A → Type 0) (xs : List A) → ((ls rs : List A) (x : A) → xs ≡ ls ++ x ∷ rs → P x) → AllByRecursion P xs
each-split P [] f = tt
each-split P (x ∷ xs) f = (f [] xs x refl, each-split P xs (λ ls rs y e. f (x ∷ ls) rs y (ap (λ l. x ∷ l) e)))

single : (xs ys : List (ℕ × ℕ)) (y z : ℕ × ℕ) (b : Bool) → xs ++ y ∷ ys ≡ cond {A = List (ℕ × ℕ)} b (z ∷ []) [] → (b ≡ true) × (y ≡ z)
single [] ys y z true e = let h : y ∷ ys ≡ z ∷ [] = e in (refl, cc)
single [] ys y z false e = absurd (cc)
single (x ∷ []) ys y z true e = let h : x ∷ (y ∷ ys) ≡ z ∷ [] = e in absurd (cc)
single (x ∷ w ∷ xs) ys y z true e = let h : x ∷ (w ∷ (xs ++ y ∷ ys)) ≡ z ∷ [] = e in absurd (cc)
single (x ∷ xs) ys y z false e = absurd (cc)

never : (xs ys : List (ℕ × ℕ)) (y : ℕ × ℕ) → xs ++ y ∷ ys ≡ [] → ⊥
never [] ys y e = cc
never (x ∷ xs) ys y e = cc

-- a member's units are at most its size
unit-bound : (k : ℕ) (z : Task) (l : RingLog) (xs ys : List (ℕ × ℕ)) (a n : ℕ) → xs ++ (a, n) ∷ ys ≡ seat_in k z → IsTrueTask l z → units_in k z ≤ n
unit-bound k (InRing q z) l xs ys a n e h = absurd (never xs ys (a, n) e)
unit-bound k (Joined m) l xs ys a n e h = let one = single xs ys (a, n) (m.offset, m.size) (m.slot == k) e in
    let size : n ≡ m.size = ap (λ (p : ℕ × ℕ). p.1) one.1 in let is : cond (m.slot == k) (units_at m.stage) 0 ≡ units_at m.stage = ap (λ b. cond b (units_at m.stage) 0) one.0 in
    let bound = by_stage m.stage h in omega (arith, size, is, bound)
  where
    by_stage : (st : MemberStage) → FitsPiece m.size st → units_at st ≤ m.size
    by_stage Closes f = omega arith
    by_stage Waits f = omega arith
    by_stage Places f = omega arith
    by_stage Stores f = omega arith
    by_stage Tells f = omega arith
    by_stage (Fills x) f = f
    by_stage Leaves f = omega arith

units-le : (k : ℕ) (hands : List Hand) (ms : List Member) → AllByRecursion (λ (m : Member). units_in k (task_of m.actor hands) ≤ m.size) ms → units_of k hands ms ≤ sum_of ms
units-le k hands [] all = omega arith
units-le k hands (m ∷ ms) all = let rest = units-le k hands ms all.1 in let one = all.0 in omega (arith, rest, one)

sum-mid : (ls rs : List Member) (x : Member) → sum_of (ls ++ x ∷ rs) ≡ sum_of ls + x.size + sum_of rs
sum-mid [] rs x = omega arith
sum-mid (l ∷ ls) rs x = let rest = sum-mid ls rs x in omega (arith, rest)

abbrev HasBound : ℕ → List Hand → Member → Type 0
HasBound k hands m = units_in k (task_of m.actor hands) ≤ m.size

-- where one has units to fill, the group has
pub unfilled_member-unfilled_group : (k me a n : ℕ) (hands : List Hand) (l : RingLog) (ms : List Member) → ((j : ℕ) → seats_of j ms ≡ seat_in k
    (task_of j hands)) → ((j : ℕ) → IsTrueTask l (task_of j hands))
    → seats_of me ms ≡ (a, n) ∷ [] → units_in k (task_of me hands) + 1 ≤ n → units_of k hands ms + 1 ≤ sum_of ms
unfilled_member-unfilled_group k me a n hands l ms joins held h less =
    let s = picked_single-split (is_of me) extent_of ms (a, n) h in let actor : s.x.actor ≡ me = eqb-true s.x.actor me s.has in let size : s.x.size ≡ n = ap (λ (p : ℕ × ℕ). p.1) s.is in
    let all = subst (AllByRecursion (HasBound k hands)) s.split (each-split (HasBound k hands) ms bounded) in
    let left = units-le k hands s.ls (all-left_of_append (HasBound k hands) s.ls (s.x ∷ s.rs) all) in let right = units-le k hands s.rs
    ((all-right_of_append (HasBound k hands) s.ls (s.x ∷ s.rs) all).1) in
    let f = ap (units_of k hands) s.split ∙ units-mid k hands s.ls s.rs s.x in let g = ap sum_of s.split ∙ sum-mid s.ls s.rs s.x in let mid = ap (λ i. units_in k (task_of i hands)) actor in
    omega (arith, left, right, f, g, mid, size, less)
  where
    bounded : (ls rs : List Member) (x : Member) → ms ≡ ls ++ x ∷ rs → HasBound k hands x
    bounded ls rs x e = unit-bound k (task_of x.actor hands) l (seats_of x.actor ls) (seats_of x.actor rs) x.offset x.size
        ((ap (λ q. seats_of x.actor ls ++ cond {A = List (ℕ × ℕ)} q (extent_of x ∷ seats_of x.actor rs) (seats_of x.actor rs)) (sym
        (eq-eqb x.actor x.actor refl))) ∙ (sym (picked-append (is_of x.actor) extent_of ls (x ∷ rs)) ∙ (ap (seats_of x.actor) (sym e) ∙ joins x.actor)))
        (held x.actor)

-- where no granted group is told, nobody has filled any
pub not_granted-no_units : (k : ℕ) (z : Task) (p : GroupPhase) → (IsTold IsGranted p → ⊥) → HasHeardAt k z p → units_in k z ≡ 0
not_granted-no_units k (InRing q z) p n h = refl
not_granted-no_units k (Joined m) p n h = by_test (m.slot == k) refl m.stage h
  where
    by_test : (b : Bool) → (m.slot == k) ≡ b → (st : MemberStage) → (m.slot ≡ k → HasHeard st p) → cond b (units_at st) 0 ≡ 0
    by_test false is st h = refl
    by_test true is Closes h = refl
    by_test true is Waits h = refl
    by_test true is Places h = refl
    by_test true is Stores h = refl
    by_test true is Tells h = refl
    by_test true is (Fills f) h = absurd (n (h (eqb-true m.slot k is)))
    by_test true is Leaves h = refl

-- one that is no member has heard nothing there
pub no_seat-has_heard_at : (k : ℕ) (z : Task) (p : GroupPhase) → seat_in k z ≡ [] → HasHeardAt k z p
no_seat-has_heard_at k (InRing q z) p e = tt
no_seat-has_heard_at k (Joined m) p e = λ same. let h : cond {A = List (ℕ × ℕ)} true ((m.offset, m.size) ∷ []) [] ≡ [] = ap (λ b. cond {A = List (ℕ
    × ℕ)} b ((m.offset, m.size) ∷ []) []) (sym (eq-eqb m.slot k same)) ∙ e in absurd (cc)
