-- An event is enabled or not.
use Rattle.std.proofs.Common.{◌≡◌, inl, inr, ℕ, ◌+◌, ◌/◌, ◌<◌, Bool, true, false, true≢false, length, IsSomeAnd, Option, Some, None, refl, sym, ap, arith}
use Rattle.std.specs.Option.{is_some}
use Rattle.ring_core.specs.RingLog.{HasUnfilled, IsFull}
use Rattle.ring_core.specs.State.{looks_at, raises_from, worked_on}
use Rattle.ring_core.specs.declared.event.RingEvent.{RingEvent}
use Rattle.ring_core.specs.declared.event.RingEvent.TheVariants.{Reserve, Fill, Mark, LookExposed, LookMark, Raise, Flushed}
use Rattle.ring_core.proofs.Deciding.{IsDecided, decided-both, decided-same, eq-decided, le-decided, idle-decided, marked-decided, room-decided, flush-decided}
use Rattle.slot_core.specs.State.{Idle, Works, Marked, Holds, Raises, GroupPhase, Vacant, Gathering, Closed, Placed, Ready, Told, Emptied}
use Rattle.slot_core.specs.State.{MemberStage, Closes, Waits, Places, Stores, Tells, Fills, Leaves, Membership, Task, Joined, InRing, SlotState}
use Rattle.slot_core.specs.State.{nothing, task_of, membership, ring_stage, reopening, group_at}
use Rattle.slot_core.specs.Machine.{GroupEvent, Join, Close, Place, PutBase, Tell, Hear, Release, Reopen, Ring, HasPlace, MayJoin, fits, closed_total}
use Rattle.slot_core.specs.Machine.{MayPlace, told_outcome, MayHear, HasUnfilledPiece, MayFill, HasDone, IsRingEnabled, IsEnabled}
use Rattle.slot_parts.specs.declared.task.TheConstants.{LONGEST_PIECE}

lt-decided : (m n : ℕ) → IsDecided (m < n)
lt-decided m n = decided-same (λ le. omega (arith, le)) (λ lt. omega (arith, lt)) (le-decided (m + 1) n)

true-decided : (b : Bool) → IsDecided (b ≡ true)
true-decided true = inl refl
true-decided false = inr (λ e. true≢false (sym e))

implied-decided : (b : Bool) (A : Type 0) → IsDecided A → IsDecided (b ≡ true → A)
implied-decided true A a = decided-same (λ x _. x) (λ f. f refl) a
implied-decided false A a = inl (λ e. absurd (true≢false (sym e)))

some-decided : {A : Type 0} → (P : A → Type 0) (o : Option A) → ((x : A) → IsDecided (P x)) → IsDecided (IsSomeAnd o P)
some-decided P None each = inr (λ is. is)
some-decided P (Some x) each = each x

nothing-decided : (z : Task) → IsDecided (z ≡ nothing)
nothing-decided (Joined m) = inr (λ is. cc)
nothing-decided (InRing (Some k) z) = inr (λ is. let e : Some k ≡ None = ap reopening is in cc)
nothing-decided (InRing None Idle) = inl refl
nothing-decided (InRing None (Works b)) = inr (λ is. let e : Works b ≡ Idle = ap ring_stage is in cc)
nothing-decided (InRing None Marked) = inr (λ is. let e : Marked ≡ Idle = ap ring_stage is in cc)
nothing-decided (InRing None (Holds b)) = inr (λ is. let e : Holds b ≡ Idle = ap ring_stage is in cc)
nothing-decided (InRing None (Raises b)) = inr (λ is. let e : Raises b ≡ Idle = ap ring_stage is in cc)

closes-decided : (st : MemberStage) → IsDecided (st ≡ Closes)
closes-decided Closes = inl refl
closes-decided Waits = inr (λ is. cc)
closes-decided Places = inr (λ is. cc)
closes-decided Stores = inr (λ is. cc)
closes-decided Tells = inr (λ is. cc)
closes-decided (Fills units) = inr (λ is. cc)
closes-decided Leaves = inr (λ is. cc)

waits-decided : (st : MemberStage) → IsDecided (st ≡ Waits)
waits-decided Closes = inr (λ is. cc)
waits-decided Waits = inl refl
waits-decided Places = inr (λ is. cc)
waits-decided Stores = inr (λ is. cc)
waits-decided Tells = inr (λ is. cc)
waits-decided (Fills units) = inr (λ is. cc)
waits-decided Leaves = inr (λ is. cc)

places-decided : (st : MemberStage) → IsDecided (st ≡ Places)
places-decided Closes = inr (λ is. cc)
places-decided Waits = inr (λ is. cc)
places-decided Places = inl refl
places-decided Stores = inr (λ is. cc)
places-decided Tells = inr (λ is. cc)
places-decided (Fills units) = inr (λ is. cc)
places-decided Leaves = inr (λ is. cc)

stores-decided : (st : MemberStage) → IsDecided (st ≡ Stores)
stores-decided Closes = inr (λ is. cc)
stores-decided Waits = inr (λ is. cc)
stores-decided Places = inr (λ is. cc)
stores-decided Stores = inl refl
stores-decided Tells = inr (λ is. cc)
stores-decided (Fills units) = inr (λ is. cc)
stores-decided Leaves = inr (λ is. cc)

tells-decided : (st : MemberStage) → IsDecided (st ≡ Tells)
tells-decided Closes = inr (λ is. cc)
tells-decided Waits = inr (λ is. cc)
tells-decided Places = inr (λ is. cc)
tells-decided Stores = inr (λ is. cc)
tells-decided Tells = inl refl
tells-decided (Fills units) = inr (λ is. cc)
tells-decided Leaves = inr (λ is. cc)

place-decided : (most n : ℕ) (p : GroupPhase) → IsDecided (HasPlace most n p)
place-decided most n Vacant = le-decided n most
place-decided most n (Gathering l t) = le-decided (t + n) most
place-decided most n (Closed l t) = inr (λ is. is)
place-decided most n (Placed l t o) = inr (λ is. is)
place-decided most n (Ready l t o) = inr (λ is. is)
place-decided most n (Told t o r) = inr (λ is. is)
place-decided most n (Emptied l) = inr (λ is. is)

join-decided : (s : SlotState) (j k n : ℕ) → IsDecided (MayJoin s j k n)
join-decided s j k n = decided-same
    (λ all. record { idle = all.0; there = all.1.0; positive = all.1.1.0; one_record = all.1.1.1.0; place = all.1.1.1.1 })
    (λ may. (may.idle, (may.there, (may.positive, (may.one_record, may.place)))))
    (decided-both (nothing-decided (task_of j s.hands)) (decided-both (lt-decided k (length s.groups)) (decided-both (le-decided 1 n)
    (decided-both (le-decided n LONGEST_PIECE) (place-decided (s.log.ring / 4) n (group_at k s.groups).phase)))))

may_place-decided : (s : SlotState) (x d : ℕ) (m : Membership) → IsDecided (MayPlace s x d m)
may_place-decided s x d m = decided-same
    (λ all. record { places = all.0; tail_seen = all.1.0; durable_seen = all.1.1.0; present = all.1.1.1 })
    (λ may. (may.places, (may.tail_seen, (may.durable_seen, may.present))))
    (decided-both (places-decided m.stage) (decided-both (le-decided x s.log.tail) (decided-both (le-decided d s.log.durable)
    (implied-decided (fits s.log (closed_total (group_at m.slot s.groups).phase) x d) (x ≡ s.log.tail) (eq-decided x s.log.tail)))))

may_hear-decided : (s : SlotState) (m : Membership) → IsDecided (MayHear s m)
may_hear-decided s m = decided-same (λ all. record { waits = all.0; told = all.1 }) (λ may. (may.waits, may.told))
    (decided-both (waits-decided m.stage) (true-decided (is_some (told_outcome (group_at m.slot s.groups).phase))))

piece-decided : (size : ℕ) (st : MemberStage) → IsDecided (HasUnfilledPiece size st)
piece-decided size Closes = inr (λ is. is)
piece-decided size Waits = inr (λ is. is)
piece-decided size Places = inr (λ is. is)
piece-decided size Stores = inr (λ is. is)
piece-decided size Tells = inr (λ is. is)
piece-decided size (Fills units) = lt-decided units size
piece-decided size Leaves = inr (λ is. is)

done-decided : (size : ℕ) (st : MemberStage) → IsDecided (HasDone size st)
done-decided size Closes = inr (λ is. is)
done-decided size Waits = inr (λ is. is)
done-decided size Places = inr (λ is. is)
done-decided size Stores = inr (λ is. is)
done-decided size Tells = inr (λ is. is)
done-decided size (Fills units) = eq-decided units size
done-decided size Leaves = inl tt

fill-decided : (s : SlotState) (z : Task) → IsDecided (MayFill s z)
fill-decided s (Joined m) = piece-decided m.size m.stage
fill-decided s (InRing q z) = some-decided HasUnfilled (worked_on z s.log.reservations) (λ r. lt-decided r.filled r.size)

ring-decided : (s : SlotState) (event : RingEvent) → IsDecided (IsRingEnabled s event)
ring-decided s (Reserve j n) = decided-both (nothing-decided (task_of j s.hands)) (room-decided s.log n)
ring-decided s (Fill j) = fill-decided s (task_of j s.hands)
ring-decided s (Mark j) = some-decided IsFull (worked_on (ring_stage (task_of j s.hands)) s.log.reservations) (λ r. eq-decided r.filled r.size)
ring-decided s (LookExposed j) = marked-decided (ring_stage (task_of j s.hands))
ring-decided s (LookMark j) = true-decided (is_some (looks_at (ring_stage (task_of j s.hands))))
ring-decided s (Raise j) = true-decided (is_some (raises_from (ring_stage (task_of j s.hands))))
ring-decided s (Flushed to) = flush-decided s.log to

pub enabled-decided : (s : SlotState) (event : GroupEvent) → IsDecided (IsEnabled s event)
enabled-decided s (Join j k n) = join-decided s j k n
enabled-decided s (Close j) = some-decided (λ m. m.stage ≡ Closes) (membership (task_of j s.hands)) (λ m. closes-decided m.stage)
enabled-decided s (Place j x d) = some-decided (MayPlace s x d) (membership (task_of j s.hands)) (may_place-decided s x d)
enabled-decided s (PutBase j) = some-decided (λ m. m.stage ≡ Stores) (membership (task_of j s.hands)) (λ m. stores-decided m.stage)
enabled-decided s (Tell j) = some-decided (λ m. m.stage ≡ Tells) (membership (task_of j s.hands)) (λ m. tells-decided m.stage)
enabled-decided s (Hear j) = some-decided (MayHear s) (membership (task_of j s.hands)) (may_hear-decided s)
enabled-decided s (Release j) = some-decided (λ m. HasDone m.size m.stage) (membership (task_of j s.hands)) (λ m. done-decided m.size m.stage)
enabled-decided s (Reopen j) = decided-both (idle-decided (ring_stage (task_of j s.hands))) (true-decided (is_some (reopening (task_of j s.hands))))
enabled-decided s (Ring event) = ring-decided s event
