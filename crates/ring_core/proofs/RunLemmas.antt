-- The steps of a run, by what it writes.
use Rattle.std.proofs.Common.{◌≡◌, ◌≢◌, ◌↔◌, ℕ, Bool, true, false, true≢false, IsTrue, List, Option, Some, refl, sym, ap, ◌∙◌, subst}
use Rattle.std.specs.Bool.{OnTrue, OnFalse}
use Rattle.std.specs.List.{find}
use Rattle.std.specs.Option.{IsSomeAnd, is_some}
use Rattle.ring_core.specs.declared.event.RingEvent.TheVariants.{Reserve, Fill, Mark, LookExposed, LookMark, Raise, Flushed}
use Rattle.ring_core.specs.RingLog.{Reservation, RingLog, is_at, is_marked, HasUnfilled, filled, IsFull, marked, raised, MayFlush, flushed, reserved}
use Rattle.ring_core.specs.State.{Stage, Works, Marked, Holds, Raises, Hand, RingState, log_of, state, stage_of, with_stage, base_in, looks_at, raises_from, after_look, worked_on, in_hand}
use Rattle.ring_core.specs.Machine.{MayReserve, after_reserve, after_fill, after_mark, after_look_mark, after_raise, RingStep}
use Rattle.ring_core.specs.Laws.{IsTrueHand, IsSound}
use Rattle.ring_core.proofs.HandLemmas.{base_in-some, raises_from-some}
use Rattle.ring_core.proofs.RangeLemmas.{found-base, some_and-some}

-- the actor works on the reservation at a base
module _ (now s : RingState) (is : s ≡ now) (actor base : ℕ) (works : base_in (stage_of actor s.hands) ≡ Some base) where
  in_hand-is : in_hand s actor ≡ find (is_at base) s.reservations
  in_hand-is = ap (λ stage. worked_on stage s.reservations) (base_in-some (stage_of actor s.hands) base works)

  -- what is done to the one in hand is done at the base
  done-at : (P : Reservation → Type 0) (after : Option Reservation → RingState) (done : ℕ → RingState) → ((r : Reservation) → after (Some r) ≡ done r.base)
      → IsSomeAnd (find (is_at base) s.reservations) P → done base ≡ after (in_hand s actor)
  done-at P after done same has = let found = some_and-some P (find (is_at base) s.reservations) has in
      sym (ap after (in_hand-is ∙ found.1) ∙ same found.0 ∙ ap done (found-base base s.reservations found.0 found.1))

  pub fill-step : (taken : Bool) (l : RingLog) → IsTrue taken ↔ IsSomeAnd (find (is_at base) s.reservations) HasUnfilled → OnTrue taken (l ≡ filled (log_of s) base) → OnFalse taken (l ≡ log_of s)
      → RingStep now (Fill actor) taken (state l s.hands)
  fill-step taken l is_left more same = subst (λ z. RingStep z (Fill actor) taken (state l s.hands)) is (by_answer taken is_left more same)
    where
      by_answer : (taken : Bool) → IsTrue taken ↔ IsSomeAnd (find (is_at base) s.reservations) HasUnfilled → OnTrue taken (l ≡ filled (log_of s) base)
          → OnFalse taken (l ≡ log_of s) → RingStep s (Fill actor) taken (state l s.hands)
      by_answer true is_left more same = (
        subst (λ o. IsSomeAnd o HasUnfilled) (sym in_hand-is) (is_left.0 refl),
        ap (λ z. state z s.hands) more ∙ done-at HasUnfilled (after_fill s) (λ b. state (filled (log_of s) b) s.hands) (λ r. refl) (is_left.0 refl),
      )
      by_answer false is_left more same = (
        (λ enabled. true≢false (sym (is_left.1 (subst (λ o. IsSomeAnd o HasUnfilled) in_hand-is enabled)))),
        ap (λ z. state z s.hands) same,
      )

  pub mark-step : IsSomeAnd (find (is_at base) s.reservations) IsFull → (l : RingLog) (hands : List Hand) → l ≡ marked (log_of s) base → hands ≡ with_stage actor Marked s.hands
      → RingStep now (Mark actor) true (state l hands)
  mark-step full l hands done turned = subst (λ z. RingStep z (Mark actor) true (state l hands)) is (
    subst (λ o. IsSomeAnd o IsFull) (sym in_hand-is) full,
    (λ i. state (done i) (turned i))
        ∙ done-at IsFull (after_mark s actor) (λ b. state (marked (log_of s) b) (with_stage actor Marked s.hands)) (λ r. refl) full,
  )

pub look_exposed-step : (now s : RingState) (is : s ≡ now) (actor at : ℕ) → stage_of actor s.hands ≡ Marked → at ≡ s.exposed → (hands : List Hand) → hands ≡ with_stage actor (Holds at) s.hands
    → RingStep now (LookExposed actor) true (state (log_of s) hands)
look_exposed-step now s is actor at mark here hands turned = subst (λ z. RingStep z (LookExposed actor) true (state (log_of s) hands)) is (
  mark,
  ap (state (log_of s)) turned ∙ ap (λ n. state (log_of s) (with_stage actor (Holds n) s.hands)) here,
)

pub look_mark-step : (now s : RingState) (is : s ≡ now) (actor at : ℕ) → looks_at (stage_of actor s.hands) ≡ Some at → (stage : Stage) → stage ≡ after_look at (is_marked at s.reservations)
    → (hands : List Hand) → hands ≡ with_stage actor stage s.hands → RingStep now (LookMark actor) true (state (log_of s) hands)
look_mark-step now s is actor at looks stage after hands turned = subst (λ z. RingStep z (LookMark actor) true (state (log_of s) hands)) is (
  ap is_some looks,
  ap (state (log_of s)) turned ∙ ap (λ st. state (log_of s) (with_stage actor st s.hands)) after ∙ ap (after_look_mark s actor) (sym looks),
)

pub raise-step : (now s : RingState) (is : s ≡ now) (actor from at : ℕ) → raises_from (stage_of actor s.hands) ≡ Some from → (l : RingLog) → l ≡ raised (log_of s) from → at ≡ l.exposed
    → (hands : List Hand) → hands ≡ with_stage actor (Holds at) s.hands → RingStep now (Raise actor) true (state l hands)
raise-step now s is actor from at raises l done here hands turned = subst (λ z. RingStep z (Raise actor) true (state l hands)) is (
  ap is_some raises,
  (λ i. state (done i) ((turned ∙ ap (λ n. with_stage actor (Holds n) s.hands) (here ∙ ap (λ (z : RingLog). z.exposed) done)) i)) ∙ ap (after_raise s actor) (sym raises),
)

-- whoever is about to raise exposed has seen a mark there
pub raise-marked : (s : RingState) (actor from : ℕ) → IsSound s → raises_from (stage_of actor s.hands) ≡ Some from → is_marked from s.reservations ≡ true
raise-marked s actor from sound raises =
    let known : IsTrueHand (log_of s) (Raises from) = subst (IsTrueHand (log_of s)) (raises_from-some (stage_of actor s.hands) from raises) (sound.hands actor) in known.1

pub reserve-step : (now s : RingState) (is : s ≡ now) (actor n : ℕ) → MayReserve now actor n → (l : RingLog) (hands : List Hand) → l ≡ reserved
    (log_of s) n → hands ≡ with_stage actor (Works s.tail) s.hands → RingStep now (Reserve actor n) true (state l hands)
reserve-step now s is actor n may l hands pushed taken_up = (
  may,
  (λ i. state (pushed i) (taken_up i)) ∙ ap (λ z. after_reserve z actor n) is,
)

pub flush-step : (now s : RingState) (is : s ≡ now) (to : ℕ) (taken : Bool) (l : RingLog) → IsTrue taken ↔ MayFlush (log_of s) to → OnTrue taken (l
    ≡ flushed (log_of s) to) → OnFalse taken (l ≡ log_of s) → RingStep now (Flushed to) taken (state l s.hands)
flush-step now s is to taken l may done none = subst (λ z. RingStep z (Flushed to) taken (state l s.hands)) is (by_answer taken may done none)
  where
    by_answer : (taken : Bool) → IsTrue taken ↔ MayFlush (log_of s) to → OnTrue taken (l ≡ flushed (log_of s) to) → OnFalse taken (l ≡ log_of s) → RingStep s (Flushed to) taken (state l s.hands)
    by_answer true may done none = (may.0 refl, ap (λ z. state z s.hands) done)
    by_answer false may done none = ((λ enabled. true≢false (sym (may.1 enabled))), ap (λ z. state z s.hands) none)
