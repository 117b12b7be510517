use Rattle.std.proofs.Common.{◌∙◌, ap, arith, drop, subst}
use Rattle.lsn_space.specs.declared.lsn.TheConstants.{LAST}
use Rattle.lock_core.specs.AccountRows.{opening_of}
use Rattle.lock_core.specs.History.{entry_at}
use Rattle.lock_core.specs.Taking.{IsTakeFault}
use Rattle.log_recovery.proofs.UnitsLemmas.{so_far, taken-place, taken-step, taken_front-IsFront, next_record-within_last}
use Rattle.log_recovery.proofs.UnitsLemmas.{failing_record-FailsBefore}
use Rattle.source_recovery.proofs.TakerLemmas.{whole-EndsWith, dropped-EndsWith, front-IsBadFor}
use Rattle.source_recovery.proofs.passing.take_records.Goals as goal

pub place_of-lsn-requires-clause-fits : goal.place_of-lsn-requires-clause-fits
place_of-lsn-requires-clause-fits g c = let can = c.requires.taken in omega (arith, can.3.place, can.3.fits)

pub take-requires-clause-taken : goal.take-requires-clause-taken
take-requires-clause-taken g c =
    let can = c.requires.taken in
    let front = c.records.invariant.taken can.0 can.1 can.2 can.3 in
    let place = c.place_of-lsn.ensures ∙ can.3.place in (
      can.0,
      opening_of can.1,
      so_far (g.T.TakesAsked.has_taken can.0) can.1 can.2 c.records.rest.now c.records.taker c.place_of-lsn.result front place,
      front.taken,
      taken-place (g.T.TakesAsked.has_taken can.0) can.1 can.2 c.records.rest.now c.records.taker c.place_of-lsn.result front place,
    )

pub take-requires-clause-fits : goal.take-requires-clause-fits
take-requires-clause-fits g c =
    let can = c.requires.taken in
    let front = c.records.invariant.taken can.0 can.1 can.2 can.3 in
    next_record-within_last (g.T.TakesAsked.has_taken can.0) can.1 can.2 c.records.rest.now c.records.taker c.place_of-lsn.result front
    (c.place_of-lsn.ensures ∙ can.3.place) c.read_into.new.rec LAST c.in-Ok.ensures.found.0 can.3.fits

pub records-init : goal.records-init
records-init g c = record { ends = whole-EndsWith c.args.units.now; taken = λ asked opening all can. can.front }

pub records-preserved : goal.records-preserved
records-preserved g c = record {
  ends = dropped-EndsWith c.args.units.now c.records.rest.now c.split_at.result.1.now c.in-Ok.size c.records.invariant.ends
      c.split_at.ensures.back;
  taken = λ asked opening all can.
      let front = c.records.invariant.taken asked opening all can in
      let place = c.place_of-lsn.ensures ∙ can.place in
      let dropped = c.split_at.ensures.back ∙ ap (λ n. drop n c.records.rest.now) c.in-Ok.ensures.found.1 in
      taken-step (g.T.TakesAsked.has_taken asked) opening all c.records.rest.now c.records.taker c.place_of-lsn.result front
      place c.read_into.new.rec c.split_at.result.1.now c.in-Ok.ensures.found.0 dropped c.take.new.self
      (c.in-Ok-take.ensures.taken asked (opening_of opening) _ front.taken
      (taken-place (g.T.TakesAsked.has_taken asked) opening all c.records.rest.now c.records.taker c.place_of-lsn.result front place));
}

pub returns-in_default-clause-stops : goal.returns-in_default-clause-stops
returns-in_default-clause-stops g c = λ asked opening all can.
    let front = c.records.invariant.taken asked opening all can in
    front-IsBadFor c.args.least opening all c.records.rest.now c.place_of-lsn.result
    (taken_front-IsFront (g.T.TakesAsked.has_taken asked) opening all c.records.rest.now c.records.taker front)
    c.requires.some c.records-test.true (c.place_of-lsn.ensures ∙ can.place) c.in_default.ensures.bad

pub returns-in-Err-NoMemory-clause-ends : goal.returns-in-Err-NoMemory-clause-ends
returns-in-Err-NoMemory-clause-ends g c =
    dropped-EndsWith c.args.units.now c.records.rest.now c.split_at.result.1.now c.in-Ok.size c.records.invariant.ends
    c.split_at.ensures.back

pub returns-in-Err-Why-clause-ends : goal.returns-in-Err-Why-clause-ends
returns-in-Err-Why-clause-ends g c =
    dropped-EndsWith c.args.units.now c.records.rest.now c.split_at.result.1.now c.in-Ok.size c.records.invariant.ends
    c.split_at.ensures.back

pub returns-in-Err-Why-clause-stops : goal.returns-in-Err-Why-clause-stops
returns-in-Err-Why-clause-stops g c = λ asked opening all can.
    let front = c.records.invariant.taken asked opening all can in
    let place = c.place_of-lsn.ensures ∙ can.place in
    let dropped = c.split_at.ensures.back ∙ ap (λ n. drop n c.records.rest.now) c.in-Ok.ensures.found.1 in
    let past = so_far (g.T.TakesAsked.has_taken asked) opening all c.records.rest.now c.records.taker c.place_of-lsn.result front place in
    rw c.in-Err-Why.field-0-is
    (failing_record-FailsBefore (g.T.TakesAsked.has_taken asked) opening all c.records.rest.now c.records.taker c.place_of-lsn.result front place
    c.read_into.new.rec c.split_at.result.1.now c.in-Ok.ensures.found.0 dropped c.in-Err-Why.why
    (g.met.T.TakesAsked.lawful _ _ _ _ front.taken)
    (subst (IsTakeFault (opening_of opening) past (entry_at c.place_of-lsn.result c.read_into.new.rec)) c.in-Err-Why.field-0-is
    (c.in-Err-Why.ensures.fault asked (opening_of opening) _ front.taken)))
