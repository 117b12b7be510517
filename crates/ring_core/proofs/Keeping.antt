-- Each event keeps the laws.
use Rattle.std.proofs.Common.{◌≡◌, ◌≢◌, ⊎_elim, ℕ, ◌≤◌, Bool, true, false, true≢false, List, Some, refl, sym, ◌∙◌, subst, arith, le_refl}
use Rattle.std.specs.List.{find}
use Rattle.std.specs.Option.{IsSomeAnd}
use native.Mathlib.Decide.{dec_le}
use Rattle.lsn_space.specs.declared.lsn.TheConstants.{LAST}
use Rattle.lsn_space.proofs.TilingLemmas.{all-found, boundary-push, boundary-map, boundary-last_end_or_start}
use Rattle.ring_core.specs.RingLog.{Reservation, RingLog, base_of, size_of, is_at, is_marked, fresh, HasUnfilled, filled_at, filled, IsFull, released_at, marked, raised, reserved, MayFlush, flushed}
use Rattle.ring_core.specs.LogLaws.{IsSoundLog}
use Rattle.ring_core.specs.State.{Stage, Idle, Works, Marked, Holds, Raises, Hand, RingState, log_of, state, stage_of, with_stage, after_look}
use Rattle.ring_core.specs.Machine.{MayReserve, start_state, turned, after_reserve, after_fill, after_mark, after_look_exposed, after_look_mark, after_raise}
use Rattle.ring_core.specs.Laws.{HasOneOwner, IsOpen, HasOwners, IsPassed, IsTrueHand, IsOnTheWay, HasCarrier, IsAtRest, IsSound}
use Rattle.ring_core.proofs.HandLemmas.{on_the_way-has_carrier, has_carrier-with_stage, true_hand-more, true_hands-with_stage}
use Rattle.ring_core.proofs.LogKeeping.{found-marked_if_released, is_marked-append_fresh, is_marked-filled_at, is_marked-released_at, empty-sound}
use Rattle.ring_core.proofs.LogKeeping.{reserved-sound, filled-sound, marked-sound, raised-sound, raised-forward, flushed-sound}
use Rattle.ring_core.proofs.Owning.{owners-reserved, owners-filled, owners-marked, owners-turned}
use Rattle.ring_core.proofs.RangeLemmas.{found-base}

-- what is marked at exposed has somebody who is on the way to expose it
abbrev IsCarried : RingLog → List Hand → Type 0
IsCarried l hands = is_marked l.exposed l.reservations ≡ true → HasCarrier hands l.exposed

abbrev AreTrue : RingLog → List Hand → Type 0
AreTrue l hands = (actor : ℕ) → IsTrueHand l (stage_of actor hands)

-- a reservation at exposed has its owner, or where it is marked a carrier
exposed-at_rest : (l : RingLog) (hands : List Hand) → IsSoundLog l → HasOwners hands l.reservations → IsCarried l hands → IsAtRest (state l hands) → l.exposed ≡ l.tail
exposed-at_rest l hands sound owners carried rest = ⊎_elim (λ same. same) (λ found. absurd (nobody found.0 found.1))
    (boundary-last_end_or_start base_of size_of l.start l.reservations l.tail l.exposed sound.tiles sound.exposed_boundary)
  where
    nobody : (r : Reservation) → find (is_at l.exposed) l.reservations ≡ Some r → ⊥
    nobody r is = by_flag r.released refl (all-found _ (is_at l.exposed) l.reservations r is owners.owned)
      where
        by_flag : (b : Bool) → r.released ≡ b → (IsOpen r → HasOneOwner hands r.base) → ⊥
        by_flag true flag owned = let c = carried (found-marked_if_released l.exposed l.reservations r is ∙ flag) in subst (IsOnTheWay l.exposed) (rest c.actor) c.on_the_way
        by_flag false flag owned = let has = owned flag in let idle = rest has.owner in let works = has.works in absurd (cc)

soundly : (l : RingLog) (hands : List Hand) → IsSoundLog l → HasOwners hands l.reservations → AreTrue l hands → IsCarried l hands → IsSound (state l hands)
soundly l hands sound owners are_true carried = record {
  log = sound;
  owners = owners;
  hands = are_true;
  carried = carried;
  at_rest = exposed-at_rest l hands sound owners carried;
}

pub reserve-sound : (s : RingState) (actor n : ℕ) → IsSound s → MayReserve s actor n → IsSound (after_reserve s actor n)
reserve-sound s actor n sound may = soundly (reserved (log_of s) n) (with_stage actor (Works s.tail) s.hands)
    (reserved-sound (log_of s) n sound.log may.room)
    (owners-reserved (log_of s) s.hands actor n sound.log sound.owners may.idle)
    (true_hands-with_stage (log_of s) (reserved (log_of s) n) actor (Works s.tail) s.hands
    (true_hand-more (log_of s) (reserved (log_of s) n) (λ at b. boundary-push size_of s.start s.reservations (fresh s.tail n) at b) (le_refl _)
    (λ at is. is_marked-append_fresh at s.tail n s.reservations ∙ is)) tt sound.hands)
    (λ is. has_carrier-with_stage actor (Works s.tail) s.hands s.exposed (λ on_the_way. subst (IsOnTheWay s.exposed) may.idle on_the_way)
    (sound.carried (sym (is_marked-append_fresh s.exposed s.tail n s.reservations) ∙ is)))

-- a unit is filled of a reservation that has one left, by whomever
pub fill-sound : (s : RingState) (r : Reservation) → IsSound s → find (is_at r.base) s.reservations ≡ Some r → HasUnfilled r → IsSound (after_fill s (Some r))
fill-sound s r sound is unfilled = soundly (filled (log_of s) r.base) s.hands
    (filled-sound (log_of s) r.base sound.log (subst (λ o. IsSomeAnd o HasUnfilled) (sym is) unfilled))
    (owners-filled s.hands s.reservations r.base sound.owners)
    (λ actor. true_hand-more (log_of s) (filled (log_of s) r.base) (λ at b. boundary-map size_of (filled_at r.base) s.start s.reservations at (λ q. refl) b) (le_refl _)
    (λ at marks. is_marked-filled_at at r.base s.reservations ∙ marks) (stage_of actor s.hands) (sound.hands actor))
    (λ marks. sound.carried (sym (is_marked-filled_at s.exposed r.base s.reservations) ∙ marks))

-- whoever has just made a mark is on the way to expose whatever is marked
pub mark-sound : (s : RingState) (actor : ℕ) (r : Reservation) → IsSound s → stage_of actor s.hands ≡ Works r.base → find (is_at r.base)
    s.reservations ≡ Some r → IsFull r → IsSound (after_mark s actor (Some r))
mark-sound s actor r sound works is full = soundly (marked (log_of s) r.base) (with_stage actor Marked s.hands)
    (marked-sound (log_of s) r.base sound.log (subst (λ o. IsSomeAnd o IsFull) (sym is) full))
    (owners-marked (log_of s) s.hands actor r.base r Marked sound.log sound.owners works is (λ b e. absurd (cc)))
    (true_hands-with_stage (log_of s) (marked (log_of s) r.base) actor Marked s.hands
    (true_hand-more (log_of s) (marked (log_of s) r.base) (λ at b. boundary-map size_of (released_at r.base) s.start s.reservations at (λ q. refl) b) (le_refl _)
    (λ at marks. is_marked-released_at at r.base s.reservations marks)) tt sound.hands)
    (λ _. on_the_way-has_carrier actor Marked s.hands s.exposed tt)

-- an actor that works on nothing turns to another stage, and the log stays
turned-sound : (s : RingState) (actor : ℕ) (now : Stage) → IsSound s → ((base : ℕ) → stage_of actor s.hands ≢ Works base) → ((base : ℕ) → now ≢ Works base) → IsTrueHand (log_of s) now
    → IsCarried (log_of s) (with_stage actor now s.hands) → IsSound (turned s actor now)
turned-sound s actor now sound before after mine carried = soundly (log_of s) (with_stage actor now s.hands)
    sound.log
    (owners-turned s.hands s.reservations actor now sound.owners before after)
    (true_hands-with_stage (log_of s) (log_of s) actor now s.hands (λ _ is. is) mine sound.hands)
    carried

-- exposed is where it is
present : (l : RingLog) → IsSoundLog l → IsPassed l l.exposed
present l sound = record { boundary = sound.exposed_boundary; exposed = le_refl _ }

pub look_exposed-sound : (s : RingState) (actor : ℕ) → IsSound s → stage_of actor s.hands ≡ Marked → IsSound (after_look_exposed s actor)
look_exposed-sound s actor sound marked = turned-sound s actor (Holds s.exposed) sound (λ base e. absurd (cc)) (λ base e. absurd (cc))
    (present (log_of s) sound.log) (λ _. on_the_way-has_carrier actor (Holds s.exposed) s.hands s.exposed refl)

-- where nothing is marked at the LSN in hand, that isn't exposed, or nothing is marked at exposed
pub look_mark-sound : (s : RingState) (actor at : ℕ) → IsSound s → stage_of actor s.hands ≡ Holds at → IsSound (after_look_mark s actor (Some at))
look_mark-sound s actor at sound holds = by_mark (is_marked at s.reservations) refl
  where
    passed : IsPassed (log_of s) at
    passed = subst (IsTrueHand (log_of s)) holds (sound.hands actor)

    here : IsOnTheWay s.exposed (stage_of actor s.hands) → at ≡ s.exposed
    here on_the_way = subst (IsOnTheWay s.exposed) holds on_the_way

    by_mark : (b : Bool) → is_marked at s.reservations ≡ b → IsSound (turned s actor (after_look at b))
    by_mark true is = turned-sound s actor (Raises at) sound (λ base e. absurd (cc)) (λ base e. absurd (cc)) (passed, is)
        (λ marks. has_carrier-with_stage actor (Raises at) s.hands s.exposed here (sound.carried marks))
    by_mark false is = turned-sound s actor Idle sound (λ base e. absurd (cc)) (λ base e. absurd (cc)) tt
        (λ marks. has_carrier-with_stage actor Idle s.hands s.exposed
        (λ on_the_way. true≢false (sym (subst (λ n. is_marked n s.reservations ≡ true) (sym (here on_the_way)) marks) ∙ is)) (sound.carried marks))

-- whether it raises exposed or finds that it has moved, the actor has the present one in hand
pub raise-sound : (s : RingState) (actor at : ℕ) → IsSound s → stage_of actor s.hands ≡ Raises at → IsSound (after_raise s actor (Some at))
raise-sound s actor at sound raises =
    let known : IsTrueHand (log_of s) (Raises at) = subst (IsTrueHand (log_of s)) raises (sound.hands actor) in
    let log = raised-sound (log_of s) at sound.log known.1 in
    let now : Stage = Holds (raised (log_of s) at).exposed in
    soundly (raised (log_of s) at) (with_stage actor now s.hands)
    log
    (owners-turned s.hands s.reservations actor now sound.owners (λ base e. absurd (cc)) (λ base e. absurd (cc)))
    (true_hands-with_stage (log_of s) (raised (log_of s) at) actor now s.hands
    (true_hand-more (log_of s) (raised (log_of s) at) (λ _ b. b) (raised-forward (log_of s) at sound.log known.1) (λ _ marks. marks))
    (present (raised (log_of s) at) log) sound.hands)
    (λ _. on_the_way-has_carrier actor now s.hands (raised (log_of s) at).exposed refl)

pub flush-sound : (s : RingState) (to : ℕ) → IsSound s → MayFlush (log_of s) to → IsSound (state (flushed (log_of s) to) s.hands)
flush-sound s to sound may = soundly (flushed (log_of s) to) s.hands (flushed-sound (log_of s) to sound.log may) sound.owners
    (λ actor. true_hand-more (log_of s) (flushed (log_of s) to) (λ _ b. b) (le_refl _) (λ _ marks. marks) (stage_of actor s.hands) (sound.hands actor))
    sound.carried

pub start-sound : (start ring : ℕ) → start ≤ LAST → IsSound (start_state start ring)
start-sound start ring within = record {
  log = empty-sound start ring within;
  owners = record { owned = tt; at_work = λ actor base works. absurd (cc) };
  hands = λ actor. tt;
  carried = λ marks. absurd (true≢false (sym marks));
  at_rest = λ rest. refl;
}

-- a look that finds nothing marked was at exposed itself: what is below is marked, and the end of all is exposed only where all is
pub holds_unmarked-at_exposed : (s : RingState) (actor at : ℕ) → IsSound s → stage_of actor s.hands ≡ Holds at → is_marked at s.reservations ≡ false → at ≡ s.exposed
holds_unmarked-at_exposed s actor at sound holds none =
    let passed : IsPassed (log_of s) at = subst (IsTrueHand (log_of s)) holds (sound.hands actor) in
    ⊎_elim (λ end. omega (arith, end, passed.exposed, sound.log.exposed)) (λ found. by_place found.0 found.1 passed.exposed)
    (boundary-last_end_or_start base_of size_of s.start s.reservations s.tail at sound.log.tiles passed.boundary)
  where
    by_place : (r : Reservation) → find (is_at at) s.reservations ≡ Some r → at ≤ s.exposed → at ≡ s.exposed
    by_place r is le = elim (dec_le s.exposed at) [
      | yes ge ↦ omega (arith, le, ge)
      | no below ↦
          let starts = found-base at s.reservations r is in
          let past = all-found _ (is_at at) s.reservations r is sound.log.past (omega (arith, starts, below)) in
          absurd (true≢false (sym past ∙ sym (found-marked_if_released at s.reservations r is) ∙ none))
    ]
