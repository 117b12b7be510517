-- The start, and where nobody has anything in hand.
use Rattle.std.proofs.Common.{◌≡◌, ⊎_elim, ℕ, ◌==◌, ◌/◌, ◌≤◌, cond, not, Bool, true, false, true≢false, List, [], ◌∷◌, replicate, Some, zero, suc, refl, sym, ap, ◌∙◌, subst, arith, eq-eqb}
use Rattle.std.specs.List.{find}
use Rattle.lsn_space.specs.declared.lsn.TheConstants.{LAST}
use Rattle.ring_core.specs.RingLog.{Reservation, base_of, size_of, is_at}
use Rattle.slot_core.specs.State.{GroupPhase, Vacant, Gathering, Closed, Placed, Ready, Told, Emptied, Member, Group, SlotState, nothing, group, empty_group, group_at}
use Rattle.slot_core.specs.Owners.{Owner, Nobody, Actor, Shared, is_actor, is_slot, is_owned, works_on, placed_at, is_open}
use Rattle.slot_core.specs.Members.{extent_of, seats_of, NextStep, ToClose, ToPlace, ToStore, ToTell, ToReopen, step_of, Link}
use Rattle.slot_core.specs.Groups.{units_of, sum_of, IsGroup}
use Rattle.slot_core.specs.Laws.{Carries, IsSound, IsAtRest}
use Rattle.slot_core.specs.Machine.{start_state}
use Rattle.lsn_space.proofs.TilingLemmas.{boundary-last_end_or_start}
use Rattle.ring_core.proofs.LogKeeping.{empty-sound, found-marked_if_released}
use Rattle.slot_core.proofs.Moving.{sound-group}
use Rattle.slot_core.proofs.Pieces.{cond_equal-single}

empty-at : (k n : ℕ) → group_at k (replicate n empty_group) ≡ empty_group
empty-at k zero = refl
empty-at zero (suc n) = refl
empty-at (suc k) (suc n) = empty-at k n

pub start-sound : (start ring slots : ℕ) → start ≤ LAST → IsSound (start_state start ring slots)
start-sound start ring slots low = record {
  log = empty-sound start ring low;
  owner = λ b. Nobody;
  works = λ j b. refl;
  shares = λ k b. ap (λ (g : Group). placed_at b g.phase) (empty-at k slots);
  owned = λ b. refl;
  links = λ j k. subst (Link j k nothing) (sym (empty-at k slots)) record { joins = refl; leads = refl; told = tt };
  groups = λ k. subst (λ (g : Group). IsGroup (ring / 4) [] (units_of k [] g.members) g.members g.phase) (sym (empty-at k slots)) refl;
  tasks = λ j. tt;
  carried = λ is. absurd (true≢false (sym is));
}

no-seats : (ms : List Member) → ((j : ℕ) → seats_of j ms ≡ []) → ms ≡ []
no-seats [] none = refl
no-seats (m ∷ ms) none = let e : extent_of m ∷ seats_of m.actor ms ≡ [] = ap (λ b. cond {A = List (ℕ × ℕ)} b (extent_of m ∷ seats_of m.actor ms)
    (seats_of m.actor ms)) (sym (eq-eqb m.actor m.actor refl)) ∙ none m.actor in absurd (cc)

leaderless : (l : ℕ) (x : NextStep) → cond (l == l) (x ∷ []) [] ≡ [] → ⊥
leaderless l x e = let h : x ∷ [] ≡ [] = sym (cond_equal-single x l) ∙ e in cc

-- every slot gathers with total 0
pub rest-vacant : (s : SlotState) → IsSound s → IsAtRest s → (k : ℕ) → group_at k s.groups ≡ empty_group
rest-vacant s sound rest k = by_phase (group_at k s.groups).members (group_at k s.groups).phase refl
  where
    link : (j : ℕ) → Link j k nothing (group_at k s.groups)
    link j = subst (λ z. Link j k z (group_at k s.groups)) (rest j) (sound.links j k)

    step : (j : ℕ) (ms : List Member) (p : GroupPhase) → group_at k s.groups ≡ group ms p → step_of j p ≡ []
    step j ms p at = ap (λ (g : Group). step_of j g.phase) (sym at) ∙ (link j).leads

    by_phase : (ms : List Member) (p : GroupPhase) → group_at k s.groups ≡ group ms p → group_at k s.groups ≡ empty_group
    by_phase ms Vacant at = let nobody : ms ≡ [] = sound-group s k (group ms Vacant) sound at in at ∙ ap (λ l. group l Vacant) nobody
    by_phase ms (Gathering l t) at = absurd (leaderless l ToClose (step l ms (Gathering l t) at))
    by_phase ms (Closed l t) at = absurd (leaderless l ToPlace (step l ms (Closed l t) at))
    by_phase ms (Placed l t o) at = absurd (leaderless l ToStore (step l ms (Placed l t o) at))
    by_phase ms (Ready l t o) at = absurd (leaderless l ToTell (step l ms (Ready l t o) at))
    by_phase ms (Told t o r) at = let told = sound-group s k (group ms (Told t o r)) sound at in
        let nobody = no-seats ms (λ j. ap (λ (g : Group). seats_of j g.members) (sym at) ∙ (link j).joins)
        in let sum = told.sum in let none = ap sum_of nobody in let some' = told.positive in absurd (omega (arith, sum, none, some'))
    by_phase ms (Emptied l) at = absurd (leaderless l ToReopen (step l ms (Emptied l) at))

-- and all is exposed
pub rest-exposed : (s : SlotState) → IsSound s → IsAtRest s → s.log.exposed ≡ s.log.tail
rest-exposed s sound rest = ⊎_elim (λ end. end) (λ found. absurd (nobody found.0 found.1))
    (boundary-last_end_or_start base_of size_of s.log.start s.log.reservations s.log.tail s.log.exposed sound.log.tiles sound.log.exposed_boundary)
  where
    by_owner : (o : Owner) → sound.owner s.log.exposed ≡ o → is_owned o ≡ true → ⊥
    by_owner Nobody is own = true≢false (sym own)
    by_owner (Actor j) is own = true≢false (sym (ap (works_on s.log.exposed) (sym (rest j)) ∙ (sound.works j s.log.exposed ∙ (ap (is_actor j) is ∙ eq-eqb j j refl))))
    by_owner (Shared k) is own = true≢false (sym (ap (λ (g : Group). placed_at s.log.exposed g.phase) (sym (rest-vacant s sound rest k)) ∙
        (sound.shares k s.log.exposed ∙ (ap (is_slot k) is ∙ eq-eqb k k refl))))

    by_flag : (r : Reservation) (b : Bool) → r.released ≡ b → find (is_at s.log.exposed) s.log.reservations ≡ Some r → ⊥
    by_flag r true flag is = let c = sound.carried (found-marked_if_released s.log.exposed s.log.reservations r is ∙ flag) in subst (Carries s.log.exposed) (rest c.actor) c.carries
    by_flag r false flag is = by_owner (sound.owner s.log.exposed) refl (sym (sound.owned s.log.exposed) ∙ (ap is_open is ∙ ap not flag))

    nobody : (r : Reservation) → find (is_at s.log.exposed) s.log.reservations ≡ Some r → ⊥
    nobody r is = by_flag r r.released refl is
