-- Who works on what, after a change of the log and of one actor.
use Rattle.std.proofs.Common.{◌≡◌, ◌≢◌, ⊎_elim, ℕ, true≢false, List, [], ◌∷◌, ◌++◌, map, Some, refl, sym, ap, ◌∙◌, subst, arith}
use Rattle.std.specs.List.{find}
use Rattle.std.specs.Option.{IsSomeAnd}
use Rattle.lsn_space.proofs.TilingLemmas.{all-found, find-append_found, all-weaken, all-both, all-map, all-push}
use Rattle.ring_core.specs.RingLog.{Reservation, RingLog, is_at, fresh, filled_at, released_at}
use Rattle.ring_core.specs.LogLaws.{IsSoundLog}
use Rattle.ring_core.specs.State.{Stage, Idle, Works, Hand, stage_of, with_stage}
use Rattle.ring_core.specs.Laws.{HasOneOwner, IsOpen, HasOwners}
use Rattle.ring_core.proofs.HandLemmas.{stage_of-with_same, stage_of-with_cases, one_owner-with_stage}
use Rattle.ring_core.proofs.LogKeeping.{sound_log-found_beside, bases-below_tail, fresh-found_at_tail}
use Rattle.ring_core.proofs.RangeLemmas.{found-base, find_at-map, all-map_at_found, released_at-same, released_at-other, some_and-map, some_and-some}

-- nobody works at the tail
tail-unowned : (l : RingLog) (hands : List Hand) → IsSoundLog l → HasOwners hands l.reservations → (actor : ℕ) → stage_of actor hands ≢ Works l.tail
tail-unowned l hands sound owners actor works =
    let found = some_and-some IsOpen _ (owners.at_work actor l.tail works) in
    let at = found-base l.tail l.reservations found.0 found.1 in
    let below = all-found _ (is_at l.tail) l.reservations found.0 found.1 (bases-below_tail l sound) in omega (arith, at, below)

-- the actor takes the next n units
pub owners-reserved : (l : RingLog) (hands : List Hand) (actor n : ℕ) → IsSoundLog l → HasOwners hands l.reservations → stage_of actor hands ≡ Idle
    → HasOwners (with_stage actor (Works l.tail) hands) (l.reservations ++ fresh l.tail n ∷ [])
owners-reserved l hands actor n sound owners idle = record {
  owned = all-push _ l.reservations new
      (all-both _ _ _ l.reservations
      (λ r below has open'. one_owner-with_stage actor r.base (Works l.tail) hands (has open')
      (λ works. absurd (cc))
      (λ same. let e : l.tail ≡ r.base = cc in omega (arith, below, e)))
      (bases-below_tail l sound) owners.owned)
      (λ _. record {
        owner = actor;
        works = stage_of-with_same actor (Works l.tail) hands;
        alone = λ other works. ⊎_elim (λ now. now.0) (λ before. absurd (tail-unowned l hands sound owners other before.1))
            (stage_of-with_cases actor other (Works l.tail) (Works l.tail) hands works);
      });
  at_work = λ other base works. ⊎_elim
      (λ now. let e : l.tail ≡ base = cc in subst (λ b. IsSomeAnd (find (is_at b) (l.reservations ++ new ∷ [])) IsOpen) e
      (subst (λ o. IsSomeAnd o IsOpen) (sym (fresh-found_at_tail l n sound)) refl))
      (λ before. let found = some_and-some IsOpen _ (owners.at_work other base before.1) in
      subst (λ o. IsSomeAnd o IsOpen) (sym (find-append_found (is_at base) l.reservations (new ∷ []) found.0 found.1)) found.2)
      (stage_of-with_cases actor other (Works l.tail) (Works base) hands works);
}
  where
    new : Reservation
    new = fresh l.tail n

-- a unit is filled, by whomever
pub owners-filled : (hands : List Hand) (rs : List Reservation) (base : ℕ) → HasOwners hands rs → HasOwners hands (map (filled_at base) rs)
owners-filled hands rs base owners = record {
  owned = all-map _ (filled_at base) rs owners.owned;
  at_work = λ actor at works. subst (λ o. IsSomeAnd o IsOpen) (sym (find_at-map (filled_at base) at rs (λ q. refl)))
      (some_and-map IsOpen (filled_at base) (find (is_at at) rs) (owners.at_work actor at works));
}

-- whoever works on a reservation has one that isn't released
pub open-at_work : (hands : List Hand) (rs : List Reservation) (actor base : ℕ) (r : Reservation) → HasOwners hands rs → stage_of actor hands ≡ Works base → find (is_at base) rs ≡ Some r → IsOpen r
open-at_work hands rs actor base r owners works is = subst (λ o. IsSomeAnd o IsOpen) is (owners.at_work actor base works)

-- the owner marks its reservation, and turns to something that isn't a reservation
pub owners-marked : (l : RingLog) (hands : List Hand) (actor base : ℕ) (r : Reservation) (now : Stage) → IsSoundLog l → HasOwners hands l.reservations
    → stage_of actor hands ≡ Works base → find (is_at base) l.reservations ≡ Some r
    → ((b : ℕ) → now ≢ Works b) → HasOwners (with_stage actor now hands) (map (released_at base) l.reservations)
owners-marked l hands actor base r now sound owners works is elsewhere = record {
  owned = all-map_at_found IsOwned IsOwned' (released_at base) l.reservations r (sound_log-found_beside l base r sound is)
      (λ open'. absurd (true≢false (sym (ap (λ (q : Reservation). q.released) (released_at-same base r at-base)) ∙ open')))
      (λ q side owned. subst IsOwned' (sym (released_at-other base q (λ e. side.differs (e ∙ sym at-base))))
      (λ open'. one_owner-with_stage actor q.base now hands (owned open')
      (λ there. side.differs (let e : base ≡ q.base = let both : Works base ≡ Works q.base = sym works ∙ there in cc in sym e ∙ sym at-base)) (elsewhere q.base)))
      owners.owned;
  at_work = λ other at works_there. ⊎_elim (λ turned. absurd (elsewhere at turned.1))
      (λ before. subst (λ o. IsSomeAnd o IsOpen) (sym (find_at-map (released_at base) at l.reservations (λ q. refl)))
      (some_and-map IsOpen (released_at base) (find (is_at at) l.reservations) (stays-open other at before.0 before.1)))
      (stage_of-with_cases actor other now (Works at) hands works_there);
}
  where
    at-base : r.base ≡ base
    at-base = found-base base l.reservations r is

    IsOwned : Reservation → Type 0
    IsOwned q = IsOpen q → HasOneOwner hands q.base

    IsOwned' : Reservation → Type 0
    IsOwned' q = IsOpen q → HasOneOwner (with_stage actor now hands) q.base

    alone : HasOneOwner hands r.base
    alone = all-found IsOwned (is_at base) l.reservations r is owners.owned (open-at_work hands l.reservations actor base r owners works is)

    stays-open : (other at : ℕ) → other ≢ actor → stage_of other hands ≡ Works at → IsSomeAnd (find (is_at at) l.reservations) (λ q. IsOpen (released_at base q))
    stays-open other at differ there =
        let found = some_and-some IsOpen _ (owners.at_work other at there) in
        let differs : at ≢ base = λ same. differ (alone.alone other (there ∙ ap Works (same ∙ sym at-base)) ∙ sym (alone.alone actor (works ∙ ap Works (sym at-base)))) in
        subst (λ o. IsSomeAnd o (λ q. IsOpen (released_at base q))) (sym found.1)
        (ap (λ (q : Reservation). q.released) (released_at-other base found.0 (λ same. differs (sym (found-base at l.reservations found.0 found.1) ∙ same))) ∙ found.2)

-- an actor that works on nothing turns to something that isn't a reservation either
pub owners-turned : (hands : List Hand) (rs : List Reservation) (actor : ℕ) (now : Stage) → HasOwners hands rs → ((base : ℕ)
    → stage_of actor hands ≢ Works base) → ((base : ℕ) → now ≢ Works base) → HasOwners (with_stage actor now hands) rs
owners-turned hands rs actor now owners before after = record {
  owned = all-weaken _ _ rs (λ r has open'. one_owner-with_stage actor r.base now hands (has open') (before r.base) (after r.base)) owners.owned;
  at_work = λ other base works. ⊎_elim (λ turned. absurd (after base turned.1)) (λ still. owners.at_work other base still.1)
      (stage_of-with_cases actor other now (Works base) hands works);
}
