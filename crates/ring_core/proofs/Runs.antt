-- Whole runs of the machine.
use Rattle.std.proofs.Common.{◌≡◌, Bool, true, false, true≢false, List, [], ◌∷◌, Option, Some, None, ℕ, refl, sym, subst}
use Rattle.std.specs.Option.{IsSome}
use Rattle.ring_core.specs.declared.event.RingEvent.{RingEvent}
use Rattle.ring_core.specs.declared.event.RingEvent.TheVariants.{Reserve, Fill, Mark, LookExposed, LookMark, Raise, Flushed}
use Rattle.ring_core.specs.RingLog.{HasUnfilled, IsFull}
use Rattle.ring_core.specs.State.{RingState, stage_of, looks_at, raises_from, in_hand}
use Rattle.ring_core.specs.Machine.{IsEnabled, state_after, after_fill, after_mark, after_look_mark, after_raise, RingStep, RunsRing}
use Rattle.ring_core.specs.Laws.{IsSound}
use Rattle.ring_core.proofs.HandLemmas.{worked_on-some, looks_at-some, raises_from-some}
use Rattle.ring_core.proofs.RangeLemmas.{some_and-some}
use Rattle.ring_core.proofs.Keeping.{reserve-sound, fill-sound, mark-sound, look_exposed-sound, look_mark-sound, raise-sound, flush-sound}

some-value : (o : Option ℕ) → IsSome o → (n : ℕ) × (o ≡ Some n)
some-value None is = absurd (true≢false (sym is))
some-value (Some n) is = (n, refl)

-- each event keeps the laws
pub event-sound : (s : RingState) (event : RingEvent) → IsSound s → IsEnabled s event → IsSound (state_after s event)
event-sound s (Reserve actor n) sound may = reserve-sound s actor n sound may
event-sound s (Fill actor) sound may =
    let found = some_and-some HasUnfilled (in_hand s actor) may in
    let works = worked_on-some (stage_of actor s.hands) s.reservations found.0 found.1 in
    subst (λ o. IsSound (after_fill s o)) (sym found.1) (fill-sound s found.0 sound works.1 found.2)
event-sound s (Mark actor) sound may =
    let found = some_and-some IsFull (in_hand s actor) may in
    let works = worked_on-some (stage_of actor s.hands) s.reservations found.0 found.1 in
    subst (λ o. IsSound (after_mark s actor o)) (sym found.1) (mark-sound s actor found.0 sound works.0 works.1 found.2)
event-sound s (LookExposed actor) sound may = look_exposed-sound s actor sound may
event-sound s (LookMark actor) sound may =
    let at = some-value (looks_at (stage_of actor s.hands)) may in
    subst (λ o. IsSound (after_look_mark s actor o)) (sym at.1) (look_mark-sound s actor at.0 sound (looks_at-some (stage_of actor s.hands) at.0 at.1))
event-sound s (Raise actor) sound may =
    let at = some-value (raises_from (stage_of actor s.hands)) may in
    subst (λ o. IsSound (after_raise s actor o)) (sym at.1) (raise-sound s actor at.0 sound (raises_from-some (stage_of actor s.hands) at.0 at.1))
event-sound s (Flushed to) sound may = flush-sound s to sound may

pub step-sound : (old : RingState) (event : RingEvent) (taken : Bool) (new : RingState) → IsSound old → RingStep old event taken new → IsSound new
step-sound old event true new sound step = subst IsSound (sym step.1) (event-sound old event sound step.0)
step-sound old event false new sound step = subst IsSound (sym step.1) sound

pub run-sound : (old : RingState) (events : List RingEvent) (new : RingState) → IsSound old → RunsRing old events new → IsSound new
run-sound old [] new sound run = subst IsSound (sym run) sound
run-sound old (event ∷ events) new sound run = run-sound run.1 events new (step-sound old event run.0 run.1 sound run.2) run.3
