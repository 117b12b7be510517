-- What the actors have in hand, after one of them changes it.
use Rattle.std.proofs.Common.{◌≡◌, ◌≢◌, ◌⊎◌, inl, inr, ⊎_elim, ℕ, ◌==◌, cond, Bool, true, false, List, [], ◌∷◌, Some, ◌≤◌, arith, refl, sym, ap, ◌∙◌, eq-eqb, eqb-true, ne_eqb, subst}
use Rattle.std.specs.List.{find}
use mathlib.Core.Logic.{dite}
use native.Mathlib.Decide.{ℕ_discrete}
use Rattle.ring_core.specs.RingLog.{Reservation, RingLog, is_at, is_marked, IsLogBoundary}
use Rattle.ring_core.specs.State.{Stage, Idle, Works, Marked, Holds, Raises, Hand, stage_of, with_stage, base_in, looks_at, raises_from, worked_on}
use Rattle.ring_core.specs.Laws.{HasOneOwner, IsTrueHand, IsOnTheWay, HasCarrier}
use Rattle.ring_core.proofs.RangeLemmas.{found-base}

pub stage_of-with_same : (actor : ℕ) (stage : Stage) (hands : List Hand) → stage_of actor (with_stage actor stage hands) ≡ stage
stage_of-with_same actor stage [] = ap (λ b. cond b stage Idle) (eq-eqb actor actor refl)
stage_of-with_same actor stage (hand ∷ hands) = by_test (hand.actor == actor) refl (stage_of-with_same actor stage hands)
  where
    by_test : (b : Bool) → (hand.actor == actor) ≡ b → stage_of actor (with_stage actor stage hands) ≡ stage → stage_of actor (cond b
        (record { actor = actor; stage = stage } ∷ hands) (hand ∷ with_stage actor stage hands)) ≡ stage
    by_test true is rest = ap (λ b. cond b stage (stage_of actor hands)) (eq-eqb actor actor refl)
    by_test false is rest = ap (λ b. cond b hand.stage (stage_of actor (with_stage actor stage hands))) is ∙ rest

pub stage_of-with_other : (actor other : ℕ) (stage : Stage) (hands : List Hand) → other ≢ actor → stage_of other (with_stage actor stage hands) ≡ stage_of other hands
stage_of-with_other actor other stage [] differ = ap (λ b. cond b stage Idle) (ne_eqb actor other (λ e. differ (sym e)))
stage_of-with_other actor other stage (hand ∷ hands) differ = by_test (hand.actor == actor) refl (stage_of-with_other actor other stage hands differ)
  where
    not_other : (n : ℕ) → (n == actor) ≡ true → (n == other) ≡ false
    not_other n is = ne_eqb n other (λ e. differ (sym e ∙ eqb-true n actor is))

    by_test : (b : Bool) → (hand.actor == actor) ≡ b → stage_of other (with_stage actor stage hands) ≡ stage_of other hands → stage_of other (cond b
        (record { actor = actor; stage = stage } ∷ hands) (hand ∷ with_stage actor stage hands)) ≡ cond (hand.actor == other) hand.stage (stage_of other hands)
    by_test true is rest = ap (λ b. cond b stage (stage_of other hands)) (ne_eqb actor other (λ e. differ (sym e))) ∙ sym (ap (λ b. cond b hand.stage (stage_of other hands)) (not_other hand.actor is))
    by_test false is rest = ap (λ l. cond (hand.actor == other) hand.stage l) rest

-- what is in hand afterwards is the actor's new stage, or was in another's hand
pub stage_of-with_cases : (actor other : ℕ) (stage now : Stage) (hands : List Hand) → stage_of other (with_stage actor stage hands) ≡ now → ((other
    ≡ actor) × (stage ≡ now)) ⊎ ((other ≢ actor) × (stage_of other hands ≡ now))
stage_of-with_cases actor other stage now hands is = dite (ℕ_discrete other actor)
    (λ same. inl (same, sym (stage_of-with_same actor stage hands) ∙ (ap (λ n. stage_of n (with_stage actor stage hands)) (sym same) ∙ is)))
    (λ differ. inr (differ, sym (stage_of-with_other actor other stage hands differ) ∙ is))

-- an owner keeps what it has, whatever another actor turns to
pub one_owner-with_stage : (actor base : ℕ) (stage : Stage) (hands : List Hand) → HasOneOwner hands base → stage_of actor hands ≢ Works base
    → stage ≢ Works base → HasOneOwner (with_stage actor stage hands) base
one_owner-with_stage actor base stage hands has others to_other = record {
  owner = has.owner;
  works = stage_of-with_other actor has.owner stage hands (λ same. others (ap (λ n. stage_of n hands) (sym same) ∙ has.works)) ∙ has.works;
  alone = λ other works. ⊎_elim (λ now. absurd (to_other now.1)) (λ before. has.alone other before.1) (stage_of-with_cases actor other stage (Works base) hands works);
}

-- what is in hand is the reservation at the base that the actor works on
pub worked_on-some : (stage : Stage) (rs : List Reservation) (r : Reservation) → worked_on stage rs ≡ Some r → (stage ≡ Works r.base) × (find (is_at r.base) rs ≡ Some r)
worked_on-some Idle rs r is = absurd (cc)
worked_on-some (Works base) rs r is =
    let at : r.base ≡ base = found-base base rs r is in (ap Works (sym at), subst (λ n. find (is_at n) rs ≡ Some r) (sym at) is)
worked_on-some Marked rs r is = absurd (cc)
worked_on-some (Holds at) rs r is = absurd (cc)
worked_on-some (Raises at) rs r is = absurd (cc)

-- what an option of a stage tells of it
pub base_in-some : (stage : Stage) (base : ℕ) → base_in stage ≡ Some base → stage ≡ Works base
base_in-some Idle base is = absurd (cc)
base_in-some (Works n) base is = let same : n ≡ base = cc in ap Works same
base_in-some Marked base is = absurd (cc)
base_in-some (Holds at) base is = absurd (cc)
base_in-some (Raises at) base is = absurd (cc)

pub looks_at-some : (stage : Stage) (place : ℕ) → looks_at stage ≡ Some place → stage ≡ Holds place
looks_at-some Idle place is = absurd (cc)
looks_at-some (Works n) place is = absurd (cc)
looks_at-some Marked place is = absurd (cc)
looks_at-some (Holds at) place is = let same : at ≡ place = cc in ap Holds same
looks_at-some (Raises at) place is = absurd (cc)

pub raises_from-some : (stage : Stage) (place : ℕ) → raises_from stage ≡ Some place → stage ≡ Raises place
raises_from-some Idle place is = absurd (cc)
raises_from-some (Works n) place is = absurd (cc)
raises_from-some Marked place is = absurd (cc)
raises_from-some (Holds at) place is = absurd (cc)
raises_from-some (Raises at) place is = let same : at ≡ place = cc in ap Raises same

-- the actor is a carrier itself
pub on_the_way-has_carrier : (actor : ℕ) (stage : Stage) (hands : List Hand) (place : ℕ) → IsOnTheWay place stage → HasCarrier (with_stage actor stage hands) place
on_the_way-has_carrier actor stage hands place is = record { actor = actor; on_the_way = subst (IsOnTheWay place) (sym (stage_of-with_same actor stage hands)) is }

-- a carrier that turns stays one, if it is on the way after it as before
pub has_carrier-with_stage : (actor : ℕ) (stage : Stage) (hands : List Hand) (place : ℕ) → (IsOnTheWay place (stage_of actor hands)
    → IsOnTheWay place stage) → HasCarrier hands place → HasCarrier (with_stage actor stage hands) place
has_carrier-with_stage actor stage hands place stays c = dite (ℕ_discrete c.actor actor)
    (λ same. on_the_way-has_carrier actor stage hands place (stays (subst (λ n. IsOnTheWay place (stage_of n hands)) same c.on_the_way)))
    (λ differ. record { actor = c.actor; on_the_way = subst (IsOnTheWay place) (sym (stage_of-with_other actor c.actor stage hands differ)) c.on_the_way })

-- what is true of a stage in one log is true of it in another that passed no less, and where no mark is gone
pub true_hand-more : (l l' : RingLog) → ((at : ℕ) → IsLogBoundary l at → IsLogBoundary l' at) → l.exposed ≤ l'.exposed → ((at : ℕ)
    → is_marked at l.reservations ≡ true → is_marked at l'.reservations ≡ true)
    → (stage : Stage) → IsTrueHand l stage → IsTrueHand l' stage
true_hand-more l l' boundary forward marks Idle is = tt
true_hand-more l l' boundary forward marks (Works base) is = tt
true_hand-more l l' boundary forward marks Marked is = tt
true_hand-more l l' boundary forward marks (Holds at) is = record { boundary = boundary at is.boundary; exposed = omega (arith, is.exposed, forward) }
true_hand-more l l' boundary forward marks (Raises at) is = (record { boundary = boundary at is.0.boundary; exposed = omega (arith, is.0.exposed, forward) }, marks at is.1)

-- and of all hands, where one actor turns to another stage
pub true_hands-with_stage : (l l' : RingLog) (actor : ℕ) (now : Stage) (hands : List Hand) → ((stage : Stage) → IsTrueHand l stage → IsTrueHand l' stage) → IsTrueHand l' now
    → ((other : ℕ) → IsTrueHand l (stage_of other hands)) → (other : ℕ) → IsTrueHand l' (stage_of other (with_stage actor now hands))
true_hands-with_stage l l' actor now hands still mine old other = dite (ℕ_discrete other actor)
    (λ same. subst (λ n. IsTrueHand l' (stage_of n (with_stage actor now hands))) (sym same) (subst (IsTrueHand l') (sym (stage_of-with_same actor now hands)) mine))
    (λ differ. subst (IsTrueHand l') (sym (stage_of-with_other actor other now hands differ)) (still (stage_of other hands) (old other)))
