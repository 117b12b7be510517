-- What holds of units holds with more behind them.
use Rattle.std.proofs.Common.{◌≡◌, ◌≤◌, ◌∙◌, ℕ, ◌+◌, List, [], ◌∷◌, ◌++◌, length, take, drop, ap, sym, arith, length-append, append_assoc}
use Rattle.std.proofs.Math.Seq.{take-append_seam}
use Rattle.std.proofs.lemmas.List.{take-append-drop, take-append-le}
use Rattle.lsn_space.specs.Opening.{Opening}
use Rattle.log_record.specs.declared.rec.Rec.{Rec}
use Rattle.log_record.specs.declared.rec.Placed.{Placed}
use Rattle.log_record.specs.declared.units.TheConstants.{LONGEST_RECORD}
use Rattle.log_record.specs.LogList.{units_of}
use Rattle.log_record.specs.Spelling.{spelling, IsSpellable, BeginsWith}
use Rattle.log_record.proofs.BoundLemmas.{length-spelling}
use Rattle.log_record.proofs.LogListLemmas.{units_of-append}
use Rattle.lsn_space.specs.declared.lsn.TheConstants.{LAST}
use Rattle.lsn_space.proofs.TilingLemmas.{all-append}
use Rattle.lock_core.specs.declared.reason.Why.{Why}
use Rattle.lock_core.specs.Sums as sums
use Rattle.log_recovery.specs.JudgedUnits.{HasTakenFront, FailsBefore}
use Rattle.log_recovery.specs.ListedRecords.{IsFront}
use Rattle.source_recovery.specs.declared.records.State.{State}
use Rattle.source_recovery.specs.declared.records.State.TheVariants as state
use Rattle.source_recovery.specs.declared.records.UnitsTaker.{UnitsTaker}
use Rattle.source_recovery.specs.Taker.{IsBadFor, HasState, HasTakenTo}

-- what begins these units with more behind begins them, where they are as many as the longest record has
pub long_begins-front_begins : (units more : List ℕ) (rec : Rec) → 26 ≤ length units → BeginsWith (units ++ more) rec → BeginsWith units rec
long_begins-front_begins units more rec long begins =
    let size : ℕ = length (spelling rec) in
    let within : size ≤ length units = omega (arith, length-spelling rec begins.0) in
    let front : take size units ≡ spelling rec =
    sym (take-append-le size units more within) ∙ ap (take size) begins.2 ∙ take-append_seam (spelling rec) begins.1 in (
      begins.0,
      drop size units,
      sym (take-append-drop size units) ∙ ap (λ l. l ++ drop size units) front,
    )

whole-more : (units front rest more : List ℕ) → units ≡ front ++ rest → units ++ more ≡ front ++ (rest ++ more)
whole-more units front rest more whole = ap (λ l. l ++ more) whole ∙ append_assoc front rest more

pub front-more : (units rest more : List ℕ) → IsFront units rest → IsFront (units ++ more) (rest ++ more)
front-more units rest more front =
    record { records = front.records; each = front.each; whole = whole-more units (units_of front.records) rest more front.whole }

-- records, and then more of them
pub front-trans : (units rest after : List ℕ) → IsFront units rest → IsFront rest after → IsFront units after
front-trans units rest after front next = record {
  records = front.records ++ next.records;
  each = all-append IsSpellable front.records next.records front.each next.each;
  whole = front.whole ∙ ap (λ l. units_of front.records ++ l) next.whole
      ∙ sym (append_assoc (units_of front.records) (units_of next.records) after)
      ∙ ap (λ l. l ++ after) (sym (units_of-append front.records next.records));
}

pub fails_before-more : (opening : Opening) (units rest more : List ℕ) (lsn : ℕ) (why : Why) → FailsBefore opening units rest lsn why
    → FailsBefore opening (units ++ more) (rest ++ more) lsn why
fails_before-more opening units rest more lsn why fails = record {
  front = fails.front;
  rec = fails.rec;
  each = fails.each;
  whole = whole-more units (units_of (fails.front ++ fails.rec ∷ [])) rest more fails.whole;
  lawful = fails.lawful;
  place = fails.place;
  first = fails.first;
}

pub bad_for-more : (opening : Opening) (units more : List ℕ) (lsn : ℕ) → IsBadFor LONGEST_RECORD opening units lsn
    → IsBadFor LONGEST_RECORD opening (units ++ more) lsn
bad_for-more opening units more lsn is =
    let bad = is.bad in
    let parts = length-append (units_of bad.front) bad.rest in
    let longer = length-append units more in
    let long : 26 ≤ length bad.rest = omega (arith, is.behind, bad.place, ap length bad.whole, parts) in record {
      bad = record {
        front = bad.front;
        each = bad.each;
        rest = bad.rest ++ more;
        whole = whole-more units (units_of bad.front) bad.rest more bad.whole;
        place = bad.place;
        some = omega (arith, length-append bad.rest more);
        none = λ rec begins. bad.none rec (long_begins-front_begins bad.rest more rec long begins);
      };
      behind = omega (arith, is.behind, longer);
    }

module _ {T : Type 0} (HasTaken : sums.Opening → T → List Placed → Type 0) where
  pub taken_front-more : (opening : Opening) (units rest more : List ℕ) (taker : T) → HasTakenFront HasTaken opening units rest taker
      → HasTakenFront HasTaken opening (units ++ more) (rest ++ more) taker
  taken_front-more opening units rest more taker front = record {
    records = front.records;
    each = front.each;
    whole = whole-more units (units_of front.records) rest more front.whole;
    taken = front.taken;
  }

  state-more : (opening : Opening) (all rest more : List ℕ) (is : State T) → HasState HasTaken LONGEST_RECORD opening all rest is
      → HasState HasTaken LONGEST_RECORD opening (all ++ more) (rest ++ more) is
  state-more opening all rest more (state.Taking taker) has = taken_front-more opening all rest more taker has
  state-more opening all rest more (state.Failed lsn why) has = record {
    from = has.from ++ more;
    fails = fails_before-more opening all has.from more lsn why has.fails;
    front = front-more has.from rest more has.front;
  }
  state-more opening all rest more (state.Bad lsn) has = bad_for-more opening all more lsn has

  -- what is taken of units is taken of them with more behind
  pub taken_to-more : (opening : Opening) (all rest more : List ℕ) (taker : UnitsTaker T) → HasTakenTo HasTaken opening all rest taker
      → opening.lsn + length (all ++ more) ≤ LAST → HasTakenTo HasTaken opening (all ++ more) (rest ++ more) taker
  taken_to-more opening all rest more taker to fits = record {
    state = state-more opening all rest more taker.state to.state;
    place = omega (arith, to.place, length-append all more, length-append rest more);
    fits = fits;
  }
