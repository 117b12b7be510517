-- Each event that is enabled keeps the laws.
use Rattle.std.proofs.Common.{◌≡◌, ◌≢◌, ℕ, ◌==◌, ◌+◌, ◌-◌, ◌/◌, ◌≤◌, nat_le, cond, Bool, true, false, true≢false, [], ◌∷◌, ◌++◌, set, IsSome}
use Rattle.std.proofs.Common.{IsSomeAnd, Option, Some, None, refl, sym, ap, ◌∙◌, subst, arith, leb-true, eq-eqb, eqb-true}
use mathlib.Core.Logic.{dite}
use native.Mathlib.Decide.{ℕ_discrete}
use Rattle.lsn_space.specs.declared.lsn.TheConstants.{LAST}
use Rattle.ring_core.specs.RingLog.{reserved, IsFull}
use Rattle.ring_core.specs.State.{base_in, looks_at, raises_from, worked_on}
use Rattle.ring_core.specs.declared.event.RingEvent.{RingEvent}
use Rattle.ring_core.specs.declared.event.RingEvent.TheVariants.{Reserve, Fill, Mark, LookExposed, LookMark, Raise, Flushed}
use Rattle.slot_core.specs.State.{Stage, Idle, Works, Marked, Holds, Raises, Outcome, Granted, Refused, GroupPhase, Vacant, Gathering, Closed, Placed}
use Rattle.slot_core.specs.State.{Ready, Told, Emptied, MemberStage, Closes, Waits, Places, Stores, Tells, Fills, Leaves, Membership, Task, Joined}
use Rattle.slot_core.specs.State.{InRing, SlotState, nothing, joined, task_of, with_task, membership, ring_stage, reopening, member, group, group_at}
use Rattle.slot_core.specs.State.{without}
use Rattle.slot_core.specs.Members.{ToClose, ToPlace, ToStore, ToTell, ToReopen}
use Rattle.slot_core.specs.Laws.{IsSound}
use Rattle.slot_core.specs.Machine.{GroupEvent, Join, Close, Place, PutBase, Tell, Hear, Release, Reopen, Ring, HasPlace, MayJoin, fits, closed_total}
use Rattle.slot_core.specs.Machine.{MayPlace, told_outcome, MayHear, HasUnfilledPiece, MayFill, HasDone, IsMemberAt, IsRingEnabled, MayReopen}
use Rattle.slot_core.specs.Machine.{IsEnabled, turned, moved, at_stage, in_ring, gathered, stage_joined, phase_joined, next_stage, next_phase}
use Rattle.slot_core.specs.Machine.{after_lead, placed_group, after_place, stage_heard, after_hear, stage_filled, log_filled, granted_base}
use Rattle.slot_core.specs.Machine.{after_fill, task_emptying, phase_released, task_released, after_release, after_mark, after_look_mark, after_raise}
use Rattle.slot_core.specs.Machine.{after_reopen, ring_after, state_after}
use Rattle.slot_core.proofs.Groups.{join_first-sound, join_later-sound, close-sound, place_refused-sound, put_base-sound, tell-sound, reopen-sound, hear_granted-sound, hear_refused-sound}
use Rattle.slot_core.proofs.Lists.{and-left, and-right}
use Rattle.slot_core.proofs.Members.{single_seat-left}
use Rattle.slot_core.proofs.Moving.{sound-link, sound-group}
use Rattle.slot_core.proofs.Phases.{to_close-gathering, to_place-closed, to_store-placed, to_tell-ready, to_reopen-emptied}
use Rattle.slot_core.proofs.Phases.{membership_some_and-joined, step_at-step_of, group_at-with_phase, fills-told_granted, leaves-told_refused}
use Rattle.slot_core.proofs.Pieces.{cond_equal-single}
use Rattle.slot_core.proofs.Ring.{reserve-sound, mark-sound, fill-sound, look_exposed-sound, look_mark-sound, raise-sound, flush-sound}
use Rattle.slot_core.proofs.Slots.{place-sound, fill_piece-sound, release_granted-sound, release_refused-sound, release_last_refused-sound, release_last_granted-sound}

join-event : (s : SlotState) (j k n : ℕ) → IsSound s → MayJoin s j k n → IsSound (state_after s (Join j k n))
join-event s j k n sound may = by_phase (group_at k s.groups).phase refl may.place
  where
    after : GroupPhase → SlotState
    after p = moved s j k (joined k (gathered p) n (stage_joined p)) (group ((group_at k s.groups).members ++ member j (gathered p) n ∷ []) (phase_joined j n p))

    by_phase : (p : GroupPhase) → (group_at k s.groups).phase ≡ p → HasPlace (s.log.ring / 4) n p → IsSound (after (group_at k s.groups).phase)
    by_phase Vacant is place = let at = group_at-with_phase s k Vacant is in let nobody : (group_at k s.groups).members ≡ [] = sound-group s k (group (group_at k s.groups).members Vacant) sound at in
        subst (λ p. IsSound (after p)) (sym is)
        (subst (λ ms. IsSound (moved s j k (joined k 0 n Closes) (group (ms ++ member j 0 n ∷ []) (Gathering j n)))) (sym nobody)
        (join_first-sound s j k n sound may.there may.idle (at ∙ ap (λ ms. group ms Vacant) nobody) may.positive place))
    by_phase (Gathering l t) is place = subst (λ p. IsSound (after p)) (sym is)
        (join_later-sound s j k n l t (group_at k s.groups).members sound may.idle (group_at-with_phase s k (Gathering l t) is) may.positive place)
    by_phase (Closed l t) is place = absurd place
    by_phase (Placed l t o) is place = absurd place
    by_phase (Ready l t o) is place = absurd place
    by_phase (Told t o r) is place = absurd place
    by_phase (Emptied l) is place = absurd place

-- the leader's step, by its stage and its group's phase
led : (s : SlotState) (j : ℕ) (m : Membership) (st : MemberStage) (p : GroupPhase) → membership (task_of j s.hands) ≡ Some m → m.stage ≡ st → (group_at m.slot s.groups).phase ≡ p
    → IsSound (moved s j m.slot (joined m.slot m.offset m.size (next_stage st)) (group (group_at m.slot s.groups).members (next_phase p))) → IsSound (after_lead s j (membership (task_of j s.hands)))
led s j m st p is stage phase sound = subst (λ o. IsSound (after_lead s j o)) (sym is)
    (subst (λ z. IsSound (moved s j m.slot (joined m.slot m.offset m.size (next_stage z)) (group (group_at m.slot s.groups).members (next_phase (group_at m.slot s.groups).phase)))) (sym stage)
    (subst (λ z. IsSound (moved s j m.slot (joined m.slot m.offset m.size (next_stage st)) (group (group_at m.slot s.groups).members (next_phase z)))) (sym phase) sound))

module _ (s : SlotState) (j : ℕ) (sound : IsSound s) where
  close-event : IsMemberAt Closes (task_of j s.hands) → IsSound (state_after s (Close j))
  close-event h = let x = membership_some_and-joined (task_of j s.hands) (λ m. m.stage ≡ Closes) h in let m = x.0 in let is = x.1 ∙ ap (joined m.slot m.offset m.size) x.3 in
      let p = to_close-gathering j (group_at m.slot s.groups).phase (step_at-step_of s j m Closes ToClose sound is refl) in
      led s j m Closes (Gathering p.0 p.1) x.2 x.3 p.2 (close-sound s j m.slot m.offset m.size p.0 p.1 (group_at m.slot s.groups).members sound is
      (group_at-with_phase s m.slot (Gathering p.0 p.1) p.2))

  put-event : IsMemberAt Stores (task_of j s.hands) → IsSound (state_after s (PutBase j))
  put-event h = let x = membership_some_and-joined (task_of j s.hands) (λ m. m.stage ≡ Stores) h in let m = x.0 in let is = x.1 ∙ ap (joined m.slot m.offset m.size) x.3 in
      let p = to_store-placed j (group_at m.slot s.groups).phase (step_at-step_of s j m Stores ToStore sound is refl) in
      led s j m Stores (Placed p.0 p.1 p.2) x.2 x.3 p.3 (put_base-sound s j m.slot m.offset m.size p.0 p.1 p.2
      (group_at m.slot s.groups).members sound is (group_at-with_phase s m.slot (Placed p.0 p.1 p.2) p.3))

  tell-event : IsMemberAt Tells (task_of j s.hands) → IsSound (state_after s (Tell j))
  tell-event h = let x = membership_some_and-joined (task_of j s.hands) (λ m. m.stage ≡ Tells) h in let m = x.0 in let is = x.1 ∙ ap (joined m.slot m.offset m.size) x.3 in
      let p = to_tell-ready j (group_at m.slot s.groups).phase (step_at-step_of s j m Tells ToTell sound is refl) in
      led s j m Tells (Ready p.0 p.1 p.2) x.2 x.3 p.3 (tell-sound s j m.slot m.offset m.size p.0 p.1 p.2 (group_at m.slot s.groups).members sound is
      (group_at-with_phase s m.slot (Ready p.0 p.1 p.2) p.3))

-- a group is placed or refused
abbrev pub placing : SlotState → ℕ → ℕ → ℕ → Membership → ℕ → Bool → SlotState
placing s j x d m total is_granted = record {
  log = cond is_granted (reserved s.log total) s.log;
  hands = with_task j (at_stage Stores m) s.hands;
  groups = set s.groups m.slot (placed_group s j m.slot total x d is_granted);
}

place-event : (s : SlotState) (j x d : ℕ) → IsSound s → IsSomeAnd (membership (task_of j s.hands)) (MayPlace s x d) → IsSound (state_after s (Place j x d))
place-event s j x d sound h = let f = membership_some_and-joined (task_of j s.hands) (MayPlace s x d) h in subst (λ o. IsSound (after_place s j x d o)) (sym f.2) (by_member f.0 f.1 f.3)
  where
    by_test : (m : Membership) (l t : ℕ) → task_of j s.hands ≡ joined m.slot m.offset m.size Places → group_at m.slot s.groups ≡ group
        (group_at m.slot s.groups).members (Closed l t) → MayPlace s x d m
        → (b : Bool) → fits s.log t x d ≡ b → (b ≡ true → x ≡ s.log.tail) → IsSound (placing s j x d m t b)
    by_test m l t is at may true fit present =
        let here = present refl in let old = sound-group s m.slot (group (group_at m.slot s.groups).members (Closed l t)) sound at in
        let log = leb-true (x + t) LAST (and-left (nat_le (x + t) LAST) (nat_le (x + t) (d + s.log.ring)) fit) in
        let ring = leb-true (x + t) (d + s.log.ring) (and-right (nat_le (x + t) LAST) (nat_le (x + t) (d + s.log.ring)) fit) in
        let low = may.durable_seen in
        place-sound s j m.slot m.offset m.size l t (group_at m.slot s.groups).members sound is at record {
          positive = old.positive;
          quarter = old.within_quarter;
          within_log = omega (arith, log, here);
          within_ring = omega (arith, ring, here, low);
        }
    by_test m l t is at may false fit present =
        let tail = may.tail_seen in let low = may.durable_seen in let last = sound.log.within_log in let f = sound.log.flushed in let e = sound.log.exposed in
        place_refused-sound s j m.slot m.offset m.size l t x d (group_at m.slot s.groups).members sound is at (omega (arith, tail, last)) (omega (arith, low, f, e, last))

    by_member : (m : Membership) → task_of j s.hands ≡ Joined m → MayPlace s x d m → IsSound (after_place s j x d (Some m))
    by_member m at may = let is = at ∙ ap (joined m.slot m.offset m.size) may.places in
        let p = to_place-closed j (group_at m.slot s.groups).phase (step_at-step_of s j m Places ToPlace sound is refl) in
        subst (λ z. IsSound (placing s j x d m (closed_total z) (fits s.log (closed_total z) x d))) (sym p.2)
        (by_test m p.0 p.1 is (group_at-with_phase s m.slot (Closed p.0 p.1) p.2) may (fits s.log p.1 x d) refl (λ yes. may.present (ap (λ z. fits s.log (closed_total z) x d) p.2 ∙ yes)))

hear-event : (s : SlotState) (j : ℕ) → IsSound s → IsSomeAnd (membership (task_of j s.hands)) (MayHear s) → IsSound (state_after s (Hear j))
hear-event s j sound h = let f = membership_some_and-joined (task_of j s.hands) (MayHear s) h in subst (λ o. IsSound (after_hear s j o)) (sym f.2)
    (by_phase f.0 (f.1 ∙ ap (joined f.0.slot f.0.offset f.0.size) f.3.waits) (group_at f.0.slot s.groups).phase refl f.3.told)
  where
    by_phase : (m : Membership) → task_of j s.hands ≡ joined m.slot m.offset m.size Waits → (p : GroupPhase) → (group_at m.slot s.groups).phase ≡ p
        → IsSome (told_outcome p) → IsSound (after_hear s j (Some m))
    by_phase m is (Told t (Granted b) r) p told = subst (λ z. IsSound (turned s j (joined m.slot m.offset m.size (stage_heard (told_outcome z))))) (sym p)
        (hear_granted-sound s j m.slot m.offset m.size t b r (group_at m.slot s.groups).members sound is (group_at-with_phase s m.slot (Told t (Granted b) r) p))
    by_phase m is (Told t (Refused x y) r) p told = subst (λ z. IsSound (turned s j (joined m.slot m.offset m.size (stage_heard (told_outcome z))))) (sym p)
        (hear_refused-sound s j m.slot m.offset m.size t x y r (group_at m.slot s.groups).members sound is (group_at-with_phase s m.slot (Told t (Refused x y) r) p))
    by_phase m is Vacant p told = absurd (true≢false (sym told))
    by_phase m is (Gathering l t) p told = absurd (true≢false (sym told))
    by_phase m is (Closed l t) p told = absurd (true≢false (sym told))
    by_phase m is (Placed l t o) p told = absurd (true≢false (sym told))
    by_phase m is (Ready l t o) p told = absurd (true≢false (sym told))
    by_phase m is (Emptied l) p told = absurd (true≢false (sym told))

fill-event : (s : SlotState) (j : ℕ) → IsSound s → MayFill s (task_of j s.hands) → IsSound (after_fill s j (task_of j s.hands))
fill-event s j sound may = by_task (task_of j s.hands) refl may
  where
    -- a member at this stage
    filling : Membership → MemberStage → SlotState
    filling m st = record s {
      log = log_filled s.log (granted_base (told_outcome (group_at m.slot s.groups).phase));
      hands = with_task j (joined m.slot m.offset m.size (stage_filled st)) s.hands;
    }

    by_stage : (m : Membership) (st : MemberStage) → task_of j s.hands ≡ joined m.slot m.offset m.size st → HasUnfilledPiece m.size st → IsSound (filling m st)
    by_stage m (Fills f) is less = let h = fills-told_granted s j m.slot m.offset m.size f sound is in
        subst (λ p. IsSound (record s { log = log_filled s.log (granted_base (told_outcome p)); hands = with_task j (joined m.slot m.offset m.size (Fills (f + 1))) s.hands })) (sym h.3)
        (fill_piece-sound s j m.slot m.offset m.size f h.0 h.1 h.2 (group_at m.slot s.groups).members sound is (omega (arith, less)) (group_at-with_phase s m.slot (Told h.0 (Granted h.1) h.2) h.3))
    by_stage m Closes is less = absurd less
    by_stage m Waits is less = absurd less
    by_stage m Places is less = absurd less
    by_stage m Stores is less = absurd less
    by_stage m Tells is less = absurd less
    by_stage m Leaves is less = absurd less

    by_task : (z : Task) → task_of j s.hands ≡ z → MayFill s z → IsSound (after_fill s j z)
    by_task (Joined m) is may = by_stage m m.stage is may
    by_task (InRing q (Works b)) is may = fill-sound s j q b sound is may
    by_task (InRing q Idle) is may = absurd may
    by_task (InRing q Marked) is may = absurd may
    by_task (InRing q (Holds e)) is may = absurd may
    by_task (InRing q (Raises e)) is may = absurd may

release-event : (s : SlotState) (j : ℕ) → IsSound s → IsSomeAnd (membership (task_of j s.hands)) (λ m. HasDone m.size m.stage) → IsSound (state_after s (Release j))
release-event s j sound may = let f = membership_some_and-joined (task_of j s.hands) (λ m. HasDone m.size m.stage) may in subst (λ o. IsSound
    (after_release s j o)) (sym f.2) (by_stage f.0 f.0.stage f.1 f.3)
  where
    leaving : Membership → GroupPhase → SlotState
    leaving m p = moved s j m.slot (task_released m.slot m.size p) (group (without j (group_at m.slot s.groups).members) (phase_released j m.size p))

    released : Membership → ℕ → Outcome → ℕ → Bool → SlotState
    released m t o r c = moved s j m.slot (cond c (task_emptying m.slot o) nothing) (group (without j (group_at m.slot s.groups).members) (cond c (Emptied j) (Told t o (r - m.size))))

    -- what remains is at least the actor's own size
    own-size : (m : Membership) (t r : ℕ) (st : MemberStage) (o : Outcome) → task_of j s.hands ≡ joined m.slot m.offset m.size st → (group_at m.slot s.groups).phase ≡ Told t o r → m.size ≤ r
    own-size m t r st o is p = let at = group_at-with_phase s m.slot (Told t o r) p in let told = sound-group s m.slot (group (group_at m.slot s.groups).members (Told t o r)) sound at in
        let left = single_seat-left j m.offset m.size (group_at m.slot s.groups).members ((sound-link s j m.slot (joined m.slot m.offset m.size st)
        (group_at m.slot s.groups) sound is refl).joins ∙ cond_equal-single {A = ℕ × ℕ} (m.offset, m.size) m.slot) in
        let e = left.sum in let sum = told.sum in omega (arith, e, sum)

    some-left : (r n : ℕ) → n ≤ r → r ≢ n → 1 ≤ r - n
    some-left r n le ne = dite (ℕ_discrete r n) (λ e. absurd (ne e)) (λ d. omega (arith, le, d))

    granted : (m : Membership) (t b r : ℕ) (c : Bool) → (r == m.size) ≡ c → task_of j s.hands ≡ joined m.slot m.offset m.size (Fills m.size) →
        (group_at m.slot s.groups).phase ≡ Told t (Granted b) r → IsSound (released m t (Granted b) r c)
    granted m t b r true same is p = let e = eqb-true r m.size same in
        release_last_granted-sound s j m.slot m.offset m.size t b (group_at m.slot s.groups).members sound is (group_at-with_phase s m.slot (Told t (Granted b) m.size) (p ∙ ap (Told t (Granted b)) e))
    granted m t b r false same is p = let le = own-size m t r (Fills m.size) (Granted b) is p in let ne : r ≢ m.size = (λ e. true≢false (sym (eq-eqb r m.size e) ∙ same)) in
        release_granted-sound s j m.slot m.offset m.size t b r (r - m.size) (group_at m.slot s.groups).members sound is (group_at-with_phase s m.slot
        (Told t (Granted b) r) p) (omega (arith, le)) (some-left r m.size le ne)

    refused : (m : Membership) (t x y r : ℕ) (c : Bool) → (r == m.size) ≡ c → task_of j s.hands ≡ joined m.slot m.offset m.size Leaves →
        (group_at m.slot s.groups).phase ≡ Told t (Refused x y) r → IsSound (released m t (Refused x y) r c)
    refused m t x y r true same is p = let e = eqb-true r m.size same in
        release_last_refused-sound s j m.slot m.offset m.size t x y (group_at m.slot s.groups).members sound is (group_at-with_phase s m.slot (Told t
        (Refused x y) m.size) (p ∙ ap (Told t (Refused x y)) e))
    refused m t x y r false same is p = let le = own-size m t r Leaves (Refused x y) is p in let ne : r ≢ m.size = (λ e. true≢false (sym (eq-eqb r m.size e) ∙ same)) in
        release_refused-sound s j m.slot m.offset m.size t x y r (r - m.size) (group_at m.slot s.groups).members sound is
        (group_at-with_phase s m.slot (Told t (Refused x y) r) p) (omega (arith, le)) (some-left r m.size le ne)

    by_stage : (m : Membership) (st : MemberStage) → task_of j s.hands ≡ joined m.slot m.offset m.size st → HasDone m.size st → IsSound (after_release s j (Some m))
    by_stage m (Fills f) is full = let is' = is ∙ ap (λ x. joined m.slot m.offset m.size (Fills x)) full in let h = fills-told_granted s j m.slot m.offset m.size m.size sound is' in
        subst (λ p. IsSound (leaving m p)) (sym h.3) (granted m h.0 h.1 h.2 (h.2 == m.size) refl is' h.3)
    by_stage m Leaves is done = let h = leaves-told_refused s j m.slot m.offset m.size sound is in
        subst (λ p. IsSound (leaving m p)) (sym h.4) (refused m h.0 h.1 h.2 h.3 (h.3 == m.size) refl is h.4)
    by_stage m Closes is done = absurd done
    by_stage m Waits is done = absurd done
    by_stage m Places is done = absurd done
    by_stage m Stores is done = absurd done
    by_stage m Tells is done = absurd done

reopen-event : (s : SlotState) (j : ℕ) → IsSound s → MayReopen (task_of j s.hands) → IsSound (state_after s (Reopen j))
reopen-event s j sound may = by_task (task_of j s.hands) refl may
  where
    by_task : (z : Task) → task_of j s.hands ≡ z → MayReopen z → IsSound (after_reopen s j (reopening z))
    by_task (InRing (Some k) z) is may = let at : task_of j s.hands ≡ InRing (Some k) Idle = is ∙ ap (InRing (Some k)) may.0 in
        let p = to_reopen-emptied j (group_at k s.groups).phase ((sound-link s j k (InRing (Some k) Idle) (group_at k s.groups) sound at refl).leads ∙ cond_equal-single ToReopen k) in
        reopen-sound s j k p.0 (group_at k s.groups).members sound at (group_at-with_phase s k (Emptied p.0) p.1)
    by_task (InRing None z) is may = absurd (true≢false (sym may.1))
    by_task (Joined m) is may = absurd (true≢false (sym may.1))

-- the stage in the ring at which an event finds an actor
ring-task : (task : Task) (stage : Stage) → ring_stage task ≡ stage → stage ≢ Idle → (q : Option ℕ) × (task ≡ InRing q stage)
ring-task (Joined m) stage is busy = absurd (busy (sym is))
ring-task (InRing q z) stage is busy = (q, ap (InRing q) is)

mark-event : (s : SlotState) (j : ℕ) → IsSound s → IsSomeAnd (worked_on (ring_stage (task_of j s.hands)) s.log.reservations) IsFull → IsSound (state_after s (Ring (Mark j)))
mark-event s j sound may = by_task (task_of j s.hands) refl may
  where
    by_task : (z : Task) → task_of j s.hands ≡ z → IsSomeAnd (worked_on (ring_stage z) s.log.reservations) IsFull → IsSound (after_mark s j z (base_in (ring_stage z)))
    by_task (InRing q (Works b)) is may = mark-sound s j q b sound is may
    by_task (InRing q Idle) is may = absurd may
    by_task (InRing q Marked) is may = absurd may
    by_task (InRing q (Holds e)) is may = absurd may
    by_task (InRing q (Raises e)) is may = absurd may
    by_task (Joined m) is may = absurd may

look_mark-event : (s : SlotState) (j : ℕ) → IsSound s → IsSome (looks_at (ring_stage (task_of j s.hands))) → IsSound (state_after s (Ring (LookMark j)))
look_mark-event s j sound may = by_task (task_of j s.hands) refl may
  where
    by_task : (z : Task) → task_of j s.hands ≡ z → IsSome (looks_at (ring_stage z)) → IsSound (after_look_mark s j z (looks_at (ring_stage z)))
    by_task (InRing q (Holds e)) is may = look_mark-sound s j q e sound is
    by_task (InRing q (Works b)) is may = absurd (true≢false (sym may))
    by_task (InRing q Idle) is may = absurd (true≢false (sym may))
    by_task (InRing q Marked) is may = absurd (true≢false (sym may))
    by_task (InRing q (Raises e)) is may = absurd (true≢false (sym may))
    by_task (Joined m) is may = absurd (true≢false (sym may))

raise-event : (s : SlotState) (j : ℕ) → IsSound s → IsSome (raises_from (ring_stage (task_of j s.hands))) → IsSound (state_after s (Ring (Raise j)))
raise-event s j sound may = by_task (task_of j s.hands) refl may
  where
    by_task : (z : Task) → task_of j s.hands ≡ z → IsSome (raises_from (ring_stage z)) → IsSound (after_raise s j z (raises_from (ring_stage z)))
    by_task (InRing q (Raises e)) is may = raise-sound s j q e sound is
    by_task (InRing q (Works b)) is may = absurd (true≢false (sym may))
    by_task (InRing q Idle) is may = absurd (true≢false (sym may))
    by_task (InRing q Marked) is may = absurd (true≢false (sym may))
    by_task (InRing q (Holds e)) is may = absurd (true≢false (sym may))
    by_task (Joined m) is may = absurd (true≢false (sym may))

look_exposed-event : (s : SlotState) (j : ℕ) → IsSound s → ring_stage (task_of j s.hands) ≡ Marked → IsSound (state_after s (Ring (LookExposed j)))
look_exposed-event s j sound may = let f = ring-task (task_of j s.hands) Marked may (λ e. cc) in
    subst (λ z. IsSound (turned s j (in_ring (Holds s.log.exposed) z))) (sym f.1) (look_exposed-sound s j f.0 sound f.1)

ring-event : (s : SlotState) (event : RingEvent) → IsSound s → IsRingEnabled s event → IsSound (ring_after s event)
ring-event s (Reserve j n) sound may = reserve-sound s j n sound may.0 may.1
ring-event s (Fill j) sound may = fill-event s j sound may
ring-event s (Mark j) sound may = mark-event s j sound may
ring-event s (LookExposed j) sound may = look_exposed-event s j sound may
ring-event s (LookMark j) sound may = look_mark-event s j sound may
ring-event s (Raise j) sound may = raise-event s j sound may
ring-event s (Flushed to) sound may = flush-sound s to sound may

-- each event keeps the laws
pub event-sound : (s : SlotState) (event : GroupEvent) → IsSound s → IsEnabled s event → IsSound (state_after s event)
event-sound s (Join j k n) sound may = join-event s j k n sound may
event-sound s (Close j) sound may = close-event s j sound may
event-sound s (Place j x d) sound may = place-event s j x d sound may
event-sound s (PutBase j) sound may = put-event s j sound may
event-sound s (Tell j) sound may = tell-event s j sound may
event-sound s (Hear j) sound may = hear-event s j sound may
event-sound s (Release j) sound may = release-event s j sound may
event-sound s (Reopen j) sound may = reopen-event s j sound may
event-sound s (Ring event) sound may = ring-event s event sound may
