-- A run can always go on, it leads to one state, and that state is sound.
use Rattle.std.proofs.Common.{◌≡◌, ⊎_elim, Bool, true, false, List, [], ◌∷◌, refl, sym, ◌∙◌, subst}
use Rattle.slot_core.specs.State.{SlotState}
use Rattle.slot_core.specs.Laws.{IsSound}
use Rattle.slot_core.specs.Machine.{GroupEvent, state_after, GroupStep, RunsGroups}
use Rattle.slot_core.proofs.Deciding.{enabled-decided}
use Rattle.slot_core.proofs.Keeping.{event-sound}

pub step-sound : (old : SlotState) (event : GroupEvent) (taken : Bool) (new : SlotState) → IsSound old → GroupStep old event taken new → IsSound new
step-sound old event true new sound step = subst IsSound (sym step.1) (event-sound old event sound step.0)
step-sound old event false new sound step = subst IsSound (sym step.1) sound

pub run-sound : (old : SlotState) (events : List GroupEvent) (new : SlotState) → IsSound old → RunsGroups old events new → IsSound new
run-sound old [] new sound run = subst IsSound (sym run) sound
run-sound old (event ∷ events) new sound run = run-sound run.1 events new (step-sound old event run.0 run.1 sound run.2) run.3

pub run-exists : (old : SlotState) (events : List GroupEvent) → (new : SlotState) × RunsGroups old events new
run-exists old [] = (old, refl)
run-exists old (event ∷ events) = ⊎_elim
    (λ may. let rest = run-exists (state_after old event) events in (rest.0, (true, state_after old event, (may, refl), rest.1)))
    (λ may_not. let rest = run-exists old events in (rest.0, (false, old, (may_not, refl), rest.1))) (enabled-decided old event)

step-unique : (old : SlotState) (event : GroupEvent) (b c : Bool) (s t : SlotState) → GroupStep old event b s → GroupStep old event c t → s ≡ t
step-unique old event true true s t x y = x.1 ∙ sym y.1
step-unique old event true false s t x y = absurd (y.0 x.0)
step-unique old event false true s t x y = absurd (x.0 y.0)
step-unique old event false false s t x y = x.1 ∙ sym y.1

pub run-unique : (old : SlotState) (events : List GroupEvent) (s t : SlotState) → RunsGroups old events s → RunsGroups old events t → s ≡ t
run-unique old [] s t x y = x ∙ sym y
run-unique old (event ∷ events) s t x y = run-unique x.1 events s t x.3 (subst (λ m. RunsGroups m events t) (sym (step-unique old event x.0 y.0 x.1 y.1 x.2 y.2)) y.3)
