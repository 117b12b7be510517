-- An event is enabled or not, so a run can always go on.
use Rattle.std.proofs.Common.{◌≡◌, ◌⊎◌, inl, inr, ⊎_elim, ℕ, ◌+◌, ◌/◌, ◌≤◌, Bool, true, false, true≢false, List, [], ◌∷◌, Option, Some, None, refl, sym, ◌∙◌, subst, arith}
use Rattle.std.proofs.lemmas.Bool.Decides.{eqb_tells, leb_tells}
use Rattle.std.specs.Option.{IsSome, IsSomeAnd}
use Rattle.lsn_space.specs.declared.lsn.TheConstants.{LAST}
use Rattle.lsn_space.specs.Tiling.{IsTilingBoundary}
use Rattle.ring_core.specs.declared.event.RingEvent.{RingEvent}
use Rattle.ring_core.specs.declared.event.RingEvent.TheVariants.{Reserve, Fill, Mark, LookExposed, LookMark, Raise, Flushed}
use Rattle.ring_core.specs.RingLog.{size_of, Reservation, RingLog, HasRoom, HasUnfilled, IsFull, MayFlush}
use Rattle.ring_core.specs.State.{Stage, Idle, Works, Marked, Holds, Raises, RingState, log_of, stage_of, looks_at, raises_from, in_hand}
use Rattle.ring_core.specs.Machine.{MayReserve, IsEnabled, state_after, RingStep, RunsRing}

abbrev pub IsDecided : Type 0 → Type 0
IsDecided A = A ⊎ (¬ A)

module _ {A B : Type 0} where
  pub decided-both : IsDecided A → IsDecided B → IsDecided (A × B)
  decided-both a b = ⊎_elim (λ yes. ⊎_elim (λ also. inl (yes, also)) (λ no_b. inr (λ both. no_b both.1)) b) (λ no_a. inr (λ both. no_a both.0)) a

  pub decided-either : IsDecided A → IsDecided B → IsDecided (A ⊎ B)
  decided-either a b = ⊎_elim (λ yes. inl (inl yes)) (λ no_a. ⊎_elim (λ also. inl (inr also)) (λ no_b. inr (λ either. ⊎_elim no_a no_b either)) b) a

  pub decided-same : (A → B) → (B → A) → IsDecided A → IsDecided B
  decided-same to back a = ⊎_elim (λ yes. inl (to yes)) (λ no_a. inr (λ b. no_a (back b))) a

pub eq-decided : (m n : ℕ) → IsDecided (m ≡ n)
eq-decided m n = ⊎_elim (λ yes. inl yes.1) (λ no_eq. inr no_eq.1) (eqb_tells m n)

pub le-decided : (m n : ℕ) → IsDecided (m ≤ n)
le-decided m n = ⊎_elim (λ yes. inl yes.1) (λ above. inr (λ le. omega (arith, above.1, le))) (leb_tells m n)

pub idle-decided : (stage : Stage) → IsDecided (stage ≡ Idle)
idle-decided Idle = inl refl
idle-decided (Works base) = inr (λ is. cc)
idle-decided Marked = inr (λ is. cc)
idle-decided (Holds at) = inr (λ is. cc)
idle-decided (Raises at) = inr (λ is. cc)

pub marked-decided : (stage : Stage) → IsDecided (stage ≡ Marked)
marked-decided Idle = inr (λ is. cc)
marked-decided (Works base) = inr (λ is. cc)
marked-decided Marked = inl refl
marked-decided (Holds at) = inr (λ is. cc)
marked-decided (Raises at) = inr (λ is. cc)

some-decided : (o : Option ℕ) → IsDecided (IsSome o)
some-decided None = inr (λ is. true≢false (sym is))
some-decided (Some n) = inl refl

pub boundary-decided : (from : ℕ) (rs : List Reservation) (to : ℕ) → IsDecided (IsTilingBoundary size_of from rs to)
boundary-decided from [] to = eq-decided to from
boundary-decided from (r ∷ rs) to = decided-either (eq-decided to from) (boundary-decided (from + r.size) rs to)

some_and-decided : (P : Reservation → Type 0) (o : Option Reservation) → ((r : Reservation) → IsDecided (P r)) → IsDecided (IsSomeAnd o P)
some_and-decided P None each = inr (λ is. is)
some_and-decided P (Some r) each = each r

pub room-decided : (l : RingLog) (n : ℕ) → IsDecided (HasRoom l n)
room-decided l n = decided-same
    (λ all. record { positive = all.0; quarter = all.1.0; within_log = all.1.1.0; within_ring = all.1.1.1 })
    (λ room. (room.positive, (room.quarter, (room.within_log, room.within_ring))))
    (decided-both (le-decided 1 n) (decided-both (le-decided n (l.ring / 4))
    (decided-both (le-decided (l.tail + n) LAST) (le-decided (l.tail + n) (l.durable + l.ring)))))

reserve-decided : (s : RingState) (actor n : ℕ) → IsDecided (MayReserve s actor n)
reserve-decided s actor n = decided-same (λ all. record { idle = all.0; room = all.1 }) (λ may. (may.idle, may.room))
    (decided-both (idle-decided (stage_of actor s.hands)) (room-decided (log_of s) n))

pub flush-decided : (l : RingLog) (to : ℕ) → IsDecided (MayFlush l to)
flush-decided l to = decided-same
    (λ all. record { forward = all.0; exposed = all.1.0; boundary = all.1.1 })
    (λ may. (may.forward, (may.exposed, may.boundary)))
    (decided-both (le-decided l.durable to) (decided-both (le-decided to l.exposed) (boundary-decided l.start l.reservations to)))

pub enabled-decided : (s : RingState) (event : RingEvent) → IsDecided (IsEnabled s event)
enabled-decided s (Reserve actor n) = reserve-decided s actor n
enabled-decided s (Fill actor) = some_and-decided HasUnfilled (in_hand s actor) (λ r. decided-same (λ le. omega (arith, le)) (λ lt. omega (arith, lt)) (le-decided (r.filled + 1) r.size))
enabled-decided s (Mark actor) = some_and-decided IsFull (in_hand s actor) (λ r. eq-decided r.filled r.size)
enabled-decided s (LookExposed actor) = marked-decided (stage_of actor s.hands)
enabled-decided s (LookMark actor) = some-decided (looks_at (stage_of actor s.hands))
enabled-decided s (Raise actor) = some-decided (raises_from (stage_of actor s.hands))
enabled-decided s (Flushed to) = flush-decided (log_of s) to

-- each event takes the machine somewhere
pub step-exists : (old : RingState) (event : RingEvent) → (taken : Bool) × (new : RingState) × RingStep old event taken new
step-exists old event = ⊎_elim (λ enabled. (true, state_after old event, (enabled, refl))) (λ refused. (false, old, (refused, refl))) (enabled-decided old event)

-- so does each list of events
pub run-exists : (old : RingState) (events : List RingEvent) → (new : RingState) × RunsRing old events new
run-exists old [] = (old, refl)
run-exists old (event ∷ events) = let step = step-exists old event in let rest = run-exists step.1 events in (rest.0, (step.0, step.1, step.2, rest.1))

-- to one state only
step-unique : (old : RingState) (event : RingEvent) (taken other : Bool) (new new' : RingState) → RingStep old event taken new → RingStep old event other new' → new ≡ new'
step-unique old event true true new new' step step' = step.1 ∙ sym step'.1
step-unique old event true false new new' step step' = absurd (step'.0 step.0)
step-unique old event false true new new' step step' = absurd (step.0 step'.0)
step-unique old event false false new new' step step' = step.1 ∙ sym step'.1

pub run-unique : (old : RingState) (events : List RingEvent) (new new' : RingState) → RunsRing old events new → RunsRing old events new' → new ≡ new'
run-unique old [] new new' run run' = run ∙ sym run'
run-unique old (event ∷ events) new new' run run' = run-unique run.1 events new new' run.3
    (subst (λ mid. RunsRing mid events new') (step-unique old event run'.0 run.0 run'.1 run.1 run'.2 run.2) run'.3)
