-- The ring machine is this one without slots.
use Rattle.std.proofs.Common.{◌≡◌, ℕ, ◌==◌, cond, Bool, true, false, true≢false, List, [], ◌∷◌, map, IsSome, IsSomeAnd, Option, Some, None, refl, sym, ap, ◌∙◌, subst}
use Rattle.std.specs.List.{AllByRecursion, find}
use Rattle.ring_core.specs.RingLog.{Reservation, RingLog, is_at, is_marked, reserved, HasUnfilled, filled, IsFull, marked, raised}
use Rattle.ring_core.specs.State.{base_in, looks_at, raises_from, worked_on}
use Rattle.ring_core.specs.declared.event.RingEvent.{RingEvent}
use Rattle.ring_core.specs.declared.event.RingEvent.TheVariants.{Reserve, Fill, Mark, LookExposed, LookMark, Raise, Flushed}
use Rattle.slot_core.specs.State.{Stage, Idle, Works, Marked, Holds, Raises, Closes, Stores, Tells, Membership, InRing, Group, SlotState, row_of, task_of, with_task, membership, ring_stage, reopening}
use Rattle.slot_core.specs.Machine.{GroupEvent, Join, Close, Place, PutBase, Tell, Hear, Release, Reopen, Ring, MayPlace, MayHear, MayFill, HasDone}
use Rattle.slot_core.specs.Machine.{IsRingEnabled, MayReopen, turned, in_ring, log_filled, after_fill, after_mark, after_look_mark, after_raise}
use Rattle.slot_core.specs.Machine.{ring_after, GroupStep, RunsGroups}
use Rattle.ring_core.specs.State.{Hand as RingHand, RingState, log_of, state, row_of as ring_row, stage_of, with_stage, in_hand}
use Rattle.ring_core.specs.Machine.{IsEnabled as IsEnabledAlone, after_fill as fill_alone, after_mark as mark_alone}
use Rattle.ring_core.specs.Machine.{after_look_mark as look_mark_alone, after_raise as raise_alone, state_after as after_alone, RingStep, RunsRing}
use Rattle.ring_core.proofs.RangeLemmas.{found-base}
use Rattle.slot_core.specs.RingPart.{hand_alone, with_groups, ring_events, IsNoJoin}
use Rattle.slot_core.proofs.Runs.{run-unique}

task-alone : (j : ℕ) (hs : List RingHand) → task_of j (map hand_alone hs) ≡ InRing None (stage_of j hs)
task-alone j [] = refl
task-alone j (h ∷ hs) = by_test (h.actor == j) (task-alone j hs)
  where
    by_test : (b : Bool) → task_of j (map hand_alone hs) ≡ InRing None (stage_of j hs) → cond b (InRing None h.stage) (task_of j (map hand_alone hs)) ≡ InRing None (cond b h.stage (stage_of j hs))
    by_test true e = refl
    by_test false e = e

with-alone : (j : ℕ) (z : Stage) (hs : List RingHand) → with_task j (InRing None z) (map hand_alone hs) ≡ map hand_alone (with_stage j z hs)
with-alone j z [] = refl
with-alone j z (h ∷ hs) = by_test (h.actor == j) (with-alone j z hs)
  where
    by_test : (b : Bool) → with_task j (InRing None z) (map hand_alone hs) ≡ map hand_alone (with_stage j z hs)
        → cond b (row_of j (InRing None z) ∷ map hand_alone hs) (hand_alone h ∷ with_task j (InRing None z) (map hand_alone hs)) ≡ map hand_alone (cond b (ring_row j z ∷ hs) (h ∷ with_stage j z hs))
    by_test true e = refl
    by_test false e = ap (λ l. hand_alone h ∷ l) e

module _ (gs : List Group) (r : RingState) where
  abbrev wide : SlotState
  wide = with_groups gs r

  -- this log, and the actor at this stage
  turn-alone : (l : RingLog) (j : ℕ) (z : Stage) → record { log = l; hands = with_task j (InRing None z) wide.hands; groups = gs } ≡ with_groups gs (state l (with_stage j z r.hands))
  turn-alone l j z = ap (λ hs. record { log = l; hands = hs; groups = gs }) (with-alone j z r.hands)

  at-found : (P : Reservation → Type 0) (z : Stage) → IsSomeAnd (worked_on z r.reservations) P → (b : ℕ) × (q : Reservation) × (base_in z ≡ Some b) ×
      (worked_on z r.reservations ≡ Some q) × (q.base ≡ b)
  at-found P Idle h = absurd h
  at-found P (Works b) h = by_found (find (is_at b) r.reservations) refl h
    where
      by_found : (o : Option Reservation) → find (is_at b) r.reservations ≡ o → IsSomeAnd o P → (x : ℕ) × (q : Reservation) × (Some b ≡ Some x) ×
          (find (is_at b) r.reservations ≡ Some q) × (q.base ≡ x)
      by_found None is h = absurd h
      by_found (Some q) is h = (b, q, refl, is, found-base b r.reservations q is)
  at-found P Marked h = absurd h
  at-found P (Holds e) h = absurd h
  at-found P (Raises e) h = absurd h

  fill-same : (j : ℕ) → IsSomeAnd (in_hand r j) HasUnfilled → after_fill wide j (InRing None (stage_of j r.hands)) ≡ with_groups gs (fill_alone r (in_hand r j))
  fill-same j h = let f = at-found HasUnfilled (stage_of j r.hands) h in
      ap (λ o. record wide { log = log_filled wide.log o }) f.2 ∙ (ap (λ b. record wide { log = filled wide.log b }) (sym f.4) ∙ ap (λ o. with_groups gs (fill_alone r o)) (sym f.3))

  mark-same : (j : ℕ) → IsSomeAnd (in_hand r j) IsFull → after_mark wide j (InRing None (stage_of j r.hands)) (base_in (stage_of j r.hands)) ≡ with_groups gs (mark_alone r j (in_hand r j))
  mark-same j h = let f = at-found IsFull (stage_of j r.hands) h in
      ap (after_mark wide j (InRing None (stage_of j r.hands))) f.2 ∙ (ap (λ b. after_mark wide j (InRing None (stage_of j r.hands)) (Some b)) (sym f.4)
      ∙ (turn-alone (marked wide.log f.1.base) j Marked ∙ ap (λ o. with_groups gs (mark_alone r j o)) (sym f.3)))

  look_mark-same : (j : ℕ) (z : Stage) (o : Option ℕ) → after_look_mark wide j (InRing None z) o ≡ with_groups gs (look_mark_alone r j o)
  look_mark-same j z None = refl
  look_mark-same j z (Some at) = turn-alone wide.log j (cond (is_marked at r.reservations) (Raises at) Idle)

  raise-same : (j : ℕ) (z : Stage) (o : Option ℕ) → after_raise wide j (InRing None z) o ≡ with_groups gs (raise_alone r j o)
  raise-same j z None = refl
  raise-same j z (Some at) = turn-alone (raised wide.log at) j (Holds (raised wide.log at).exposed)

  pub enabled-enabled_alone : (event : RingEvent) → IsRingEnabled wide event → IsEnabledAlone r event
  enabled-enabled_alone (Reserve j n) h = record { idle = ap ring_stage (sym (task-alone j r.hands) ∙ h.0); room = h.1 }
  enabled-enabled_alone (Fill j) h = subst (MayFill wide) (task-alone j r.hands) h
  enabled-enabled_alone (Mark j) h = subst (λ z. IsSomeAnd (worked_on (ring_stage z) r.reservations) IsFull) (task-alone j r.hands) h
  enabled-enabled_alone (LookExposed j) h = subst (λ z. ring_stage z ≡ Marked) (task-alone j r.hands) h
  enabled-enabled_alone (LookMark j) h = subst (λ z. IsSome (looks_at (ring_stage z))) (task-alone j r.hands) h
  enabled-enabled_alone (Raise j) h = subst (λ z. IsSome (raises_from (ring_stage z))) (task-alone j r.hands) h
  enabled-enabled_alone (Flushed to) h = h

  pub enabled_alone-enabled : (event : RingEvent) → IsEnabledAlone r event → IsRingEnabled wide event
  enabled_alone-enabled (Reserve j n) h = (task-alone j r.hands ∙ ap (InRing None) h.idle, h.room)
  enabled_alone-enabled (Fill j) h = subst (MayFill wide) (sym (task-alone j r.hands)) h
  enabled_alone-enabled (Mark j) h = subst (λ z. IsSomeAnd (worked_on (ring_stage z) r.reservations) IsFull) (sym (task-alone j r.hands)) h
  enabled_alone-enabled (LookExposed j) h = subst (λ z. ring_stage z ≡ Marked) (sym (task-alone j r.hands)) h
  enabled_alone-enabled (LookMark j) h = subst (λ z. IsSome (looks_at (ring_stage z))) (sym (task-alone j r.hands)) h
  enabled_alone-enabled (Raise j) h = subst (λ z. IsSome (raises_from (ring_stage z))) (sym (task-alone j r.hands)) h
  enabled_alone-enabled (Flushed to) h = h

  after-same : (event : RingEvent) → IsEnabledAlone r event → ring_after wide event ≡ with_groups gs (after_alone r event)
  after-same (Reserve j n) h = turn-alone (reserved wide.log n) j (Works r.tail)
  after-same (Fill j) h = ap (after_fill wide j) (task-alone j r.hands) ∙ fill-same j h
  after-same (Mark j) h = ap (λ z. after_mark wide j z (base_in (ring_stage z))) (task-alone j r.hands) ∙ mark-same j h
  after-same (LookExposed j) h = ap (λ z. turned wide j (in_ring (Holds r.exposed) z)) (task-alone j r.hands) ∙ turn-alone wide.log j (Holds r.exposed)
  after-same (LookMark j) h = ap (λ z. after_look_mark wide j z (looks_at (ring_stage z))) (task-alone j r.hands) ∙ look_mark-same j (stage_of j r.hands) (looks_at (stage_of j r.hands))
  after-same (Raise j) h = ap (λ z. after_raise wide j z (raises_from (ring_stage z))) (task-alone j r.hands) ∙ raise-same j (stage_of j r.hands) (raises_from (stage_of j r.hands))
  after-same (Flushed to) h = refl

  -- no member is there, and no slot to open
  no-member : (P : Membership → Type 0) (j : ℕ) → IsSomeAnd (membership (task_of j wide.hands)) P → ⊥
  no-member P j h = subst (λ z. IsSomeAnd (membership z) P) (task-alone j r.hands) h

  no-reopening : (j : ℕ) → MayReopen (task_of j wide.hands) → ⊥
  no-reopening j h = true≢false (sym (subst (λ z. IsSome (reopening z)) (task-alone j r.hands) h.1))

ring-step : (gs : List Group) (old mid : RingState) (event : RingEvent) (b : Bool) → RingStep old event b mid → GroupStep (with_groups gs old) (Ring event) b (with_groups gs mid)
ring-step gs old mid event true s = (enabled_alone-enabled gs old event s.0, ap (with_groups gs) s.1 ∙ sym (after-same gs old event s.0))
ring-step gs old mid event false s = ((λ h. s.0 (enabled-enabled_alone gs old event h)), ap (with_groups gs) s.1)

-- where nobody joins, this machine goes as the ring machine, whatever slot events are tried
pub runs_ring-runs_groups : (gs : List Group) (old new : RingState) (events : List GroupEvent) → AllByRecursion IsNoJoin events → RunsRing old
    (ring_events events) new → RunsGroups (with_groups gs old) events (with_groups gs new)
runs_ring-runs_groups gs old new [] no_join run = ap (with_groups gs) run
runs_ring-runs_groups gs old new (Join j k n ∷ es) no_join run = absurd no_join.0
runs_ring-runs_groups gs old new (Close j ∷ es) no_join run = (
  false,
  with_groups gs old,
  ((λ h. no-member gs old (λ m. m.stage ≡ Closes) j h), refl),
  runs_ring-runs_groups gs old new es no_join.1 run,
)
runs_ring-runs_groups gs old new (Place j x d ∷ es) no_join run = (
  false,
  with_groups gs old,
  (
    (λ h. no-member gs old (MayPlace (with_groups gs old)
        x d) j h),
    refl,
  ),
  runs_ring-runs_groups gs old new es no_join.1 run,
)
runs_ring-runs_groups gs old new (PutBase j ∷ es) no_join run = (
  false,
  with_groups gs old,
  (
    (λ h. no-member gs old (λ m. m.stage ≡ Stores) j h),
    refl,
  ),
  runs_ring-runs_groups gs old new es no_join.1 run,
)
runs_ring-runs_groups gs old new (Tell j ∷ es) no_join run = (false, with_groups gs old, ((λ h. no-member gs old (λ m. m.stage ≡ Tells) j h), refl), runs_ring-runs_groups gs old new es no_join.1 run)
runs_ring-runs_groups gs old new (Hear j ∷ es) no_join run = (
  false,
  with_groups gs old,
  (
    (λ h. no-member gs old (MayHear (with_groups gs old)) j h),
    refl,
  ),
  runs_ring-runs_groups gs old new es no_join.1 run,
)
runs_ring-runs_groups gs old new (Release j ∷ es) no_join run = (
  false,
  with_groups gs old,
  (
    (λ h. no-member gs old (λ m. HasDone m.size m.stage)
        j h),
    refl,
  ),
  runs_ring-runs_groups gs old new es no_join.1 run,
)
runs_ring-runs_groups gs old new (Reopen j ∷ es) no_join run = (false, with_groups gs old, ((λ h. no-reopening gs old j h), refl), runs_ring-runs_groups gs old new es no_join.1 run)
runs_ring-runs_groups gs old new (Ring event ∷ es) no_join run = (run.0, with_groups gs run.1, ring-step gs old run.1 event run.0 run.2, runs_ring-runs_groups gs run.1 new es no_join.1 run.3)

-- so both have the same log
pub no_join-same_log : (gs : List Group) (old new : RingState) (t : SlotState) (events : List GroupEvent) → AllByRecursion IsNoJoin events
    → RunsRing old (ring_events events) new → RunsGroups (with_groups gs old) events t → t.log ≡ log_of new
no_join-same_log gs old new t events no_join run slots = ap (λ (s : SlotState). s.log) (run-unique (with_groups gs old) events t (with_groups gs new)
    slots (runs_ring-runs_groups gs old new events no_join run))
