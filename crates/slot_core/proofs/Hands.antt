-- What one actor takes in hand, and what the others see of it.
use Rattle.std.proofs.Common.{◌≡◌, ◌≢◌, ℕ, ◌==◌, ◌+◌, ◌<◌, cond, Bool, true, false, true≢false, List, [], ◌∷◌, ◌++◌, length, set, get_or-set_same}
use Rattle.std.proofs.Common.{get_or-set_other, zero, suc, refl, sym, ap, ◌∙◌, subst, arith, eq-eqb, eqb-true, ne_eqb}
use Rattle.std.specs.List.{find}
use mathlib.Core.Logic.{dite}
use native.Mathlib.Decide.{ℕ_discrete}
use Rattle.ring_core.specs.RingLog.{Reservation, is_at}
use Rattle.slot_core.specs.State.{Outcome, Granted, Refused, GroupPhase, Vacant, Gathering, Closed, Placed, Ready, Told, Emptied, Task, Hand, Member}
use Rattle.slot_core.specs.State.{Group, nothing, row_of, task_of, with_task, empty_group, group_at}
use Rattle.slot_core.specs.Owners.{granted_at, placed_at}
use Rattle.slot_core.specs.Members.{extent_of, seats_of, Link, AllLinked}
use Rattle.slot_core.specs.Groups.{units_in, units_of, IsTrueOutcome, IsGroup}
use Rattle.slot_core.specs.Laws.{Carries, HasCarrier}

pub task_of-with_task_self : (actor : ℕ) (stage : Task) (hands : List Hand) → task_of actor (with_task actor stage hands) ≡ stage
task_of-with_task_self actor stage [] = ap (λ b. cond b stage nothing) (eq-eqb actor actor refl)
task_of-with_task_self actor stage (hand ∷ hands) = by_test (hand.actor == actor) refl (task_of-with_task_self actor stage hands)
  where
    by_test : (b : Bool) → (hand.actor == actor) ≡ b → task_of actor (with_task actor stage hands) ≡ stage → task_of actor (cond b
        (row_of actor stage ∷ hands) (hand ∷ with_task actor stage hands)) ≡ stage
    by_test true is rest = ap (λ b. cond b stage (task_of actor hands)) (eq-eqb actor actor refl)
    by_test false is rest = ap (λ b. cond b hand.task (task_of actor (with_task actor stage hands))) is ∙ rest

pub task_of-with_task_other : (actor other : ℕ) (stage : Task) (hands : List Hand) → other ≢ actor → task_of other (with_task actor stage hands) ≡ task_of other hands
task_of-with_task_other actor other stage [] differ = ap (λ b. cond b stage nothing) (ne_eqb actor other (λ e. differ (sym e)))
task_of-with_task_other actor other stage (hand ∷ hands) differ = by_test (hand.actor == actor) refl (task_of-with_task_other actor other stage hands differ)
  where
    not_other : (n : ℕ) → (n == actor) ≡ true → (n == other) ≡ false
    not_other n is = ne_eqb n other (λ e. differ (sym e ∙ eqb-true n actor is))

    by_test : (b : Bool) → (hand.actor == actor) ≡ b → task_of other (with_task actor stage hands) ≡ task_of other hands → task_of other (cond b
        (row_of actor stage ∷ hands) (hand ∷ with_task actor stage hands)) ≡ cond (hand.actor == other) hand.task (task_of other hands)
    by_test true is rest = ap (λ b. cond b stage (task_of other hands)) (ne_eqb actor other (λ e. differ (sym e))) ∙ sym (ap (λ b. cond b hand.task (task_of other hands)) (not_other hand.actor is))
    by_test false is rest = ap (λ l. cond (hand.actor == other) hand.task l) rest

-- what holds of each actor: of the one that moves, and of the others
pub with_task-each_actor : (P Q : ℕ → Task → Type 0) (me : ℕ) (stage : Task) (hands : List Hand) → ((j : ℕ) → P j (task_of j hands)) → Q me stage →
    ((j : ℕ) (z : Task) → j ≢ me → P j z → Q j z) → (j : ℕ) → Q j (task_of j (with_task me stage hands))
with_task-each_actor P Q me stage hands all mine others j = dite (ℕ_discrete j me)
    (λ e. subst (λ i. Q i (task_of i (with_task me stage hands))) (sym e) (subst (Q me) (sym (task_of-with_task_self me stage hands)) mine))
    (λ ne. subst (Q j) (sym (task_of-with_task_other me j stage hands ne)) (others j (task_of j hands) ne (all j)))

-- and of each slot
pub set_group-each_slot : (P Q : ℕ → Group → Type 0) (k : ℕ) (g : Group) (groups : List Group) → k < length groups → ((q : ℕ) → P q
    (group_at q groups)) → Q k g → ((q : ℕ) (z : Group) → q ≢ k → P q z → Q q z) → (q : ℕ) → Q q (group_at q (set groups k g))
set_group-each_slot P Q k g groups within all mine others q = dite (ℕ_discrete q k)
    (λ e. subst (λ i. Q i (group_at i (set groups k g))) (sym e) (subst (Q k) (sym (get_or-set_same groups k g empty_group within)) mine))
    (λ ne. subst (Q q) (sym (get_or-set_other groups k q g empty_group ne)) (others q (group_at q groups) ne (all q)))

-- links of all actors with all slots, where one actor and one slot change
pub links-moved : (me k : ℕ) (stage : Task) (g : Group) (hands : List Hand) (groups : List Group) → k < length groups → AllLinked hands groups
    → Link me k stage g → ((q : ℕ) (z : Group) → q ≢ k → Link me q (task_of me hands) z → Link me q stage z)
    → ((j : ℕ) (z : Task) → j ≢ me → Link j k z (group_at k groups) → Link j k z g) → AllLinked (with_task me stage hands) (set groups k g)
links-moved me k stage g hands groups within all mine away others = with_task-each_actor (λ j z. (q : ℕ) → Link j q z (group_at q groups)) (λ j z.
    (q : ℕ) → Link j q z (group_at q (set groups k g))) me stage hands all
    (set_group-each_slot (λ q z. Link me q (task_of me hands) z) (λ q z. Link me q stage z) k g groups within (all me) mine away)
    (λ j z ne old. set_group-each_slot (λ q h. Link j q z h) (λ q h. Link j q z h) k g groups within old (others j z ne (old k)) (λ q h _ l. l))

-- and where no slot changes
pub links-turned : (me : ℕ) (stage : Task) (hands : List Hand) (groups : List Group) → AllLinked hands groups → ((q : ℕ) → Link me q
    (task_of me hands) (group_at q groups) → Link me q stage (group_at q groups)) → AllLinked (with_task me stage hands) groups
links-turned me stage hands groups all mine = with_task-each_actor (λ j z. (q : ℕ) → Link j q z (group_at q groups)) (λ j z. (q : ℕ) → Link j q z (group_at q groups)) me stage hands all
    (λ q. mine q (all me q)) (λ j z ne old. old)

-- beyond the machine's slots there is nobody
pub nonempty_group-within : (k : ℕ) (groups : List Group) → group_at k groups ≢ empty_group → k < length groups
nonempty_group-within k [] differs = absurd (differs refl)
nonempty_group-within zero (g ∷ groups) differs = omega arith
nonempty_group-within (suc k) (g ∷ groups) differs = let rest = nonempty_group-within k groups differs in omega (arith, rest)

-- units filled, where the actor's own are the same
pub units-with_task_same : (k me : ℕ) (stage : Task) (hands : List Hand) (ms : List Member) → units_in k stage ≡ units_in k (task_of me hands)
    → units_of k (with_task me stage hands) ms ≡ units_of k hands ms
units-with_task_same k me stage hands [] same = refl
units-with_task_same k me stage hands (m ∷ ms) same = λ i. one m.actor i + units-with_task_same k me stage hands ms same i
  where
    one : (j : ℕ) → units_in k (task_of j (with_task me stage hands)) ≡ units_in k (task_of j hands)
    one j = dite (ℕ_discrete j me)
        (λ e. ap (λ i. units_in k (task_of i (with_task me stage hands))) e ∙ (ap (units_in k) (task_of-with_task_self me stage hands) ∙ (same ∙ ap (λ i. units_in k (task_of i hands)) (sym e))))
        (λ ne. ap (units_in k) (task_of-with_task_other me j stage hands ne))

-- where the actor isn't among them
pub units-with_task_absent : (k me : ℕ) (stage : Task) (hands : List Hand) (ms : List Member) → seats_of me ms ≡ [] → units_of k (with_task me stage hands) ms ≡ units_of k hands ms
units-with_task_absent k me stage hands [] none = refl
units-with_task_absent k me stage hands (m ∷ ms) none = by_test (m.actor == me) refl none (units-with_task_absent k me stage hands ms)
  where
    by_test : (b : Bool) → (m.actor == me) ≡ b → cond b (extent_of m ∷ seats_of me ms) (seats_of me ms) ≡ [] → (seats_of me ms ≡ [] → units_of k
        (with_task me stage hands) ms ≡ units_of k hands ms) → units_of k (with_task me stage hands) (m ∷ ms) ≡ units_of k hands (m ∷ ms)
    by_test true is none rest = absurd (cc)
    by_test false is none rest = λ i. units_in k (task_of-with_task_other me m.actor stage hands (λ e. true≢false (sym (eq-eqb m.actor me e) ∙ is)) i) + rest none i

pub units-append : (k : ℕ) (hands : List Hand) (ms ns : List Member) → units_of k hands (ms ++ ns) ≡ units_of k hands ms + units_of k hands ns
units-append k hands [] ns = omega arith
units-append k hands (m ∷ ms) ns = let rest = units-append k hands ms ns in omega (arith, rest)

-- where nobody has filled any
pub units-none_filled : (k : ℕ) (hands : List Hand) (ms : List Member) → ((j : ℕ) → units_in k (task_of j hands) ≡ 0) → units_of k hands ms ≡ 0
units-none_filled k hands [] none = refl
units-none_filled k hands (m ∷ ms) none = let one = none m.actor in let rest = units-none_filled k hands ms none in omega (arith, one, rest)

-- a group whose members have filled as many and whose range is found as before
pub group-same : (most : ℕ) (rs rs' : List Reservation) (d d' : ℕ) (ms : List Member) (p : GroupPhase) → d' ≡ d → ((b : ℕ) → placed_at b p ≡ true
    → find (is_at b) rs' ≡ find (is_at b) rs) → IsGroup most rs d ms p → IsGroup most rs' d' ms p
group-same most rs rs' d d' ms p same found is = subst (λ n. IsGroup most rs' n ms p) (sym same) (by_phase p found is)
  where
    covers : (o : Outcome) (t r : ℕ) → ((b : ℕ) → granted_at b o ≡ true → find (is_at b) rs' ≡ find (is_at b) rs) → IsTrueOutcome rs o t r d → IsTrueOutcome rs' o t r d
    covers (Granted b) t r f c = record { r = c.r; found = f b (eq-eqb b b refl) ∙ c.found; size = c.size; filled = c.filled }
    covers (Refused x y) t r f c = c

    by_phase : (p : GroupPhase) → ((b : ℕ) → placed_at b p ≡ true → find (is_at b) rs' ≡ find (is_at b) rs) → IsGroup most rs d ms p → IsGroup most rs' d ms p
    by_phase Vacant f h = h
    by_phase (Gathering l t) f h = h
    by_phase (Closed l t) f h = h
    by_phase (Placed l t o) f h = record { gathered = h.gathered; covers = covers o t t f h.covers }
    by_phase (Ready l t o) f h = record { gathered = h.gathered; covers = covers o t t f h.covers }
    by_phase (Told t o r) f h = record { apart = h.apart; sum = h.sum; positive = h.positive; within = h.within; within_quarter = h.within_quarter; covers = covers o t r f h.covers }
    by_phase (Emptied l) f h = h

-- a carrier that is another actor stays one
pub has_carrier-turned : (actor : ℕ) (stage : Task) (hands : List Hand) (x : ℕ) → (Carries x (task_of actor hands) → Carries x stage) → HasCarrier hands x → HasCarrier (with_task actor stage hands) x
has_carrier-turned actor stage hands x f c = dite (ℕ_discrete c.actor actor)
    (λ is. record { actor = actor; carries = subst (Carries x) (sym (task_of-with_task_self actor stage hands)) (f (subst (λ n. Carries x (task_of n hands)) is c.carries)) })
    (λ differ. record { actor = c.actor; carries = subst (Carries x) (sym (task_of-with_task_other actor c.actor stage hands differ)) c.carries })

-- an actor that has just looked carries, whatever is marked
pub carries-has_carrier : (actor : ℕ) (stage : Task) (hands : List Hand) (x : ℕ) → Carries x stage → HasCarrier (with_task actor stage hands) x
carries-has_carrier actor stage hands x carries = record { actor = actor; carries = subst (Carries x) (sym (task_of-with_task_self actor stage hands)) carries }
