-- Pieces, steps and what was heard, as the groups change.
use Rattle.std.proofs.Common.{◌≡◌, ◌≢◌, ℕ, ◌==◌, ◌+◌, ◌≤◌, cond, Bool, true, false, List, [], ◌∷◌, ◌++◌, refl, sym, ap, ◌∙◌, subst, arith, eq-eqb, eqb-true, ne_eqb}
use Rattle.slot_core.specs.State.{Outcome, GroupPhase, MemberStage, Closes, Waits, Places, Stores, Tells, Fills, Leaves, Task, Joined, InRing, Member, member, group}
use Rattle.slot_core.specs.Members.{is_of, extent_of, seats_of, NextStep, step_of, IsGranted, IsRefused, IsTold, HasHeard, HasHeardAt, Link}
use Rattle.slot_core.specs.Groups.{sum_of, Tiles, LieApart}
use Rattle.slot_core.proofs.Lists.{picked-append}

pub cond_equal-single : {A : Type 0} → (x : A) (k : ℕ) → cond {A = List A} (k == k) (x ∷ []) [] ≡ x ∷ []
cond_equal-single x k = ap (λ b. cond b (x ∷ []) []) (eq-eqb k k refl)

pub cond_unequal-none : {A : Type 0} → (x : A) (l j : ℕ) → j ≢ l → cond {A = List A} (l == j) (x ∷ []) [] ≡ []
cond_unequal-none x l j ne = ap (λ b. cond b (x ∷ []) []) (ne_eqb l j (λ e. ne (sym e)))

pub cond-both_none : {A : Type 0} → (b : Bool) → cond {A = List A} b [] [] ≡ []
cond-both_none true = refl
cond-both_none false = refl

-- the one that makes the slot's next step is its leader
pub step_agrees-leader : (l me k : ℕ) (x : NextStep) → cond (l == me) (x ∷ []) [] ≡ cond (k == k) (x ∷ []) [] → l ≡ me
step_agrees-leader l me k x e = by_test (l == me) refl (e ∙ cond_equal-single x k)
  where
    by_test : (b : Bool) → (l == me) ≡ b → cond b (x ∷ []) [] ≡ x ∷ [] → l ≡ me
    by_test true is h = eqb-true l me is
    by_test false is h = absurd (cc)

-- what was heard of one phase holds of the next, where all that is told stays told
heard-shift : (st : MemberStage) (p p' : GroupPhase) → ((P : Outcome → Type 0) → IsTold P p → IsTold P p') → HasHeard st p → HasHeard st p'
heard-shift Closes p p' f h = tt
heard-shift Waits p p' f h = tt
heard-shift Places p p' f h = tt
heard-shift Stores p p' f h = tt
heard-shift Tells p p' f h = tt
heard-shift (Fills x) p p' f h = f IsGranted h
heard-shift Leaves p p' f h = f IsRefused h

pub heard_at-new_phase : (k : ℕ) (z : Task) (p p' : GroupPhase) → ((P : Outcome → Type 0) → IsTold P p → IsTold P p') → HasHeardAt k z p → HasHeardAt k z p'
heard_at-new_phase k (Joined m) p p' f h = λ e. heard-shift m.stage p p' f (h e)
heard_at-new_phase k (InRing q z) p p' f h = tt

-- another actor sees the leader's step only in the phase
pub other_link-new_phase : (j k : ℕ) (z : Task) (ms : List Member) (p p' : GroupPhase) → step_of j p ≡ [] → step_of j p' ≡ [] → ((P : Outcome
    → Type 0) → IsTold P p → IsTold P p') → Link j k z (group ms p) → Link j k z (group ms p')
other_link-new_phase j k z ms p p' empty empty' f l = record { joins = l.joins; leads = empty' ∙ (sym empty ∙ l.leads); told = heard_at-new_phase k z p p' f l.told }

pub tiles-push : (a b n j : ℕ) (ms : List Member) → 1 ≤ n → Tiles a ms b → Tiles a (ms ++ member j b n ∷ []) (b + n)
tiles-push a b n j [] some' h = (sym h, some', ap (λ x. x + n) h)
tiles-push a b n j (m ∷ ms) some' h = (h.0, h.1, tiles-push (a + m.size) b n j ms some' h.2)

pub seats-push : (i j a n : ℕ) (ms : List Member) → seats_of i (ms ++ member j a n ∷ []) ≡ seats_of i ms ++ cond {A = List (ℕ × ℕ)} (j == i) ((a, n) ∷ []) []
seats-push i j a n ms = picked-append (is_of i) extent_of ms (member j a n ∷ [])

pub append-none : {A : Type 0} → (xs : List A) → xs ++ [] ≡ xs
append-none [] = refl
append-none (x ∷ xs) = ap (λ l. x ∷ l) (append-none xs)

pub tiles-sum : (a b : ℕ) (ms : List Member) → Tiles a ms b → a + sum_of ms ≡ b
tiles-sum a b [] h = omega (arith, h)
tiles-sum a b (m ∷ ms) h = let rest = tiles-sum (a + m.size) b ms h.2 in omega (arith, rest)

pub tiles-apart : (a b : ℕ) (ms : List Member) → Tiles a ms b → LieApart a ms b
tiles-apart a b [] h = omega (arith, h)
tiles-apart a b (m ∷ ms) h = (omega (arith, h.0), h.1, subst (λ x. LieApart x ms b) (ap (λ x. x + m.size) (sym h.0)) (tiles-apart (a + m.size) b ms h.2))
