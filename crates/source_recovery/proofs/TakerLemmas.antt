-- How a taker goes on, and what it answers at the end.
use Rattle.std.proofs.Common.{◌≡◌, ◌<◌, ◌≤◌, ◌∙◌, ℕ, ◌+◌, ◌-◌, List, [], ◌∷◌, ◌++◌, length, take, drop, refl, ap, sym, subst, arith}
use Rattle.std.proofs.Common.{length-append, append_assoc}
use Rattle.std.proofs.Math.Seq.{drop-append_seam}
use Rattle.std.proofs.lemmas.List.{take-append-drop}
use Rattle.lsn_space.specs.Opening.{Opening}
use Rattle.log_record.specs.declared.rec.Rec.{Rec}
use Rattle.log_record.specs.declared.rec.Placed.{Placed}
use Rattle.log_record.specs.Spelling.{BeginsWith}
use Rattle.lock_core.specs.declared.reason.Why.{Why}
use Rattle.lock_core.specs.Sums as sums
use Rattle.log_recovery.specs.ListedRecords.{EndsWith, IsFront}
use Rattle.log_recovery.proofs.ListingLemmas.{front-IsBadRecAt}
use Rattle.source_recovery.specs.declared.records.State.{State}
use Rattle.source_recovery.specs.declared.records.State.TheVariants as state
use Rattle.source_recovery.specs.declared.records.UnitsTaker.{UnitsTaker}
use Rattle.source_recovery.specs.Passing.{ReadsFew}
use Rattle.source_recovery.specs.Taker.{IsBadFor, HasFailed, HasState, StandsAt}
use Rattle.source_recovery.proofs.GrowthLemmas.{front-trans}

-- ---- rests of units

pub whole-EndsWith : (units : List ℕ) → EndsWith units units
whole-EndsWith units = ([], refl)

pub dropped-EndsWith : (units rest after : List ℕ) (n : ℕ) → EndsWith units rest → after ≡ drop n rest → EndsWith units after
dropped-EndsWith units rest after n ends dropped = (
  ends.0 ++ take n rest,
  ends.1 ∙ ap (λ l. ends.0 ++ l) (sym (take-append-drop n rest) ∙ ap (λ l. take n rest ++ l) (sym dropped))
      ∙ sym (append_assoc ends.0 (take n rest) after),
)

pub ends_with-trans : (units rest after : List ℕ) → EndsWith units rest → EndsWith rest after → EndsWith units after
ends_with-trans units rest after first next =
    (first.0 ++ next.0, first.1 ∙ ap (λ l. first.0 ++ l) next.1 ∙ sym (append_assoc first.0 next.0 after))

-- what is left without what stands before a rest is the rest
pub left_out-rest : (units rest after : List ℕ) (count : ℕ) → EndsWith units rest → count ≡ length units
    → after ≡ drop (count - length rest) units → after ≡ rest
left_out-rest units rest after count ends all left =
    let same : count - length rest ≡ length ends.0 = omega (arith, ap length ends.1, length-append ends.0 rest) in
    left ∙ ap (λ n. drop n units) same ∙ ap (drop (length ends.0)) ends.1 ∙ drop-append_seam ends.0 rest

pub below_one-empty : (units : List ℕ) → length units < 1 → units ≡ []
below_one-empty [] few = refl
below_one-empty (unit ∷ units) few = absurd (omega arith)

-- ---- faults

-- where none begins at the end of a front
pub front-IsBadFor : (least : ℕ) (opening : Opening) (all rest : List ℕ) (lsn : ℕ) → IsFront all rest → 0 < least → least ≤ length rest
    → lsn + length rest ≡ opening.lsn + length all → ((rec : Rec) → BeginsWith rest rec → ⊥) → IsBadFor least opening all lsn
front-IsBadFor least opening all rest lsn front some long place none = record {
  bad = front-IsBadRecAt opening.lsn all rest lsn front (omega arith) place none;
  behind = omega arith;
}

pub failed-IsFront : (opening : Opening) (all rest : List ℕ) (lsn : ℕ) (why : Why) → HasFailed opening all rest lsn why → IsFront all rest
failed-IsFront opening all rest lsn why failed =
    let fails = failed.fails in
    let led : IsFront all failed.from = record { records = fails.front ++ fails.rec ∷ []; each = fails.each; whole = fails.whole } in
    front-trans all failed.from rest led failed.front

pub failed-HasFailed : (opening : Opening) (all rest after : List ℕ) (lsn : ℕ) (why : Why) → HasFailed opening all rest lsn why
    → IsFront rest after → HasFailed opening all after lsn why
failed-HasFailed opening all rest after lsn why failed front =
    record { from = failed.from; fails = failed.fails; front = front-trans failed.from rest after failed.front front }

-- ---- the taker

module _ {T : Type 0} (HasTaken : sums.Opening → T → List Placed → Type 0) where
  pub stands-HasFailed : (least : ℕ) (opening : Opening) (all rest : List ℕ) (taker : UnitsTaker T) (lsn : ℕ) (why : Why)
      → taker.state ≡ state.Failed lsn why → StandsAt HasTaken least opening all rest taker → HasFailed opening all rest lsn why
  stands-HasFailed least opening all rest taker lsn why is stands = subst (HasState HasTaken least opening all rest) is stands.state

  -- behind a record that failed records are read
  pub read_further-StandsAt : (least : ℕ) (opening : Opening) (all rest after : List ℕ) (taker : UnitsTaker T) (lsn : ℕ) (why : Why)
      (next : ℕ) → taker.state ≡ state.Failed lsn why → StandsAt HasTaken least opening all rest taker → IsFront rest after
      → next + length after ≡ taker.next + length rest
      → StandsAt HasTaken least opening all after (record { state = taker.state; next = next })
  read_further-StandsAt least opening all rest after taker lsn why next is stands front place = record {
    state = subst (HasState HasTaken least opening all after) (sym is)
        (failed-HasFailed opening all rest after lsn why (stands-HasFailed least opening all rest taker lsn why is stands) front);
    place = place ∙ stands.place;
    fits = stands.fits;
  }

  -- the same, up to a place at which none begins
  pub read_to_bad-StandsAt : (least : ℕ) (opening : Opening) (all rest after : List ℕ) (taker : UnitsTaker T) (lsn : ℕ) (why : Why)
      (next : ℕ) → taker.state ≡ state.Failed lsn why → StandsAt HasTaken least opening all rest taker → IsFront rest after
      → next + length after ≡ taker.next + length rest → 0 < least → least ≤ length after → ((rec : Rec) → BeginsWith after rec → ⊥)
      → StandsAt HasTaken least opening all after (record { state = state.Bad next; next = next })
  read_to_bad-StandsAt least opening all rest after taker lsn why next is stands front place some long none =
      let failed = stands-HasFailed least opening all rest taker lsn why is stands in
      let led = front-trans all rest after (failed-IsFront opening all rest lsn why failed) front in record {
        state = front-IsBadFor least opening all after next led some long (place ∙ stands.place) none;
        place = place ∙ stands.place;
        fits = stands.fits;
      }

  left_behind_bad-HasState : (least : ℕ) (opening : Opening) (all rest end : List ℕ) (is : State T) → ReadsFew least rest is
      → least ≤ length rest → HasState HasTaken least opening all rest is → HasState HasTaken least opening all end is
  left_behind_bad-HasState least opening all rest end (state.Taking taker) few long has = absurd (omega arith)
  left_behind_bad-HasState least opening all rest end (state.Failed lsn why) few long has = absurd (omega arith)
  left_behind_bad-HasState least opening all rest end (state.Bad lsn) few long has = has

  -- behind a place at which no record begins all the rest is passed
  pub left_behind_bad-StandsAt : (least : ℕ) (opening : Opening) (all rest end : List ℕ) (taker : UnitsTaker T) (next : ℕ)
      → ReadsFew least rest taker.state → least ≤ length rest → next + length end ≡ taker.next + length rest
      → StandsAt HasTaken least opening all rest taker
      → StandsAt HasTaken least opening all end (record { state = taker.state; next = next })
  left_behind_bad-StandsAt least opening all rest end taker next few long place stands = record {
    state = left_behind_bad-HasState least opening all rest end taker.state few long stands.state;
    place = place ∙ stands.place;
    fits = stands.fits;
  }
