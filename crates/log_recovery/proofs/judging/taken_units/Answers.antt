use Rattle.std.proofs.Common.{◌∙◌, ◌+◌, ap, drop, length, subst}
use Rattle.lock_core.specs.History.{entry_at}
use Rattle.lock_core.specs.AccountRows.{opening_of}
use Rattle.lock_core.specs.Taking.{IsTakeFault}
use Rattle.log_recovery.proofs.UnitsLemmas.{so_far, taken-place, taken-step, failing_record-FailsBefore}
use Rattle.log_recovery.proofs.judging.taken_units.Goals as goal

pub take-requires-clause-taken : goal.take-requires-clause-taken
take-requires-clause-taken g c =
    let before = c.records.invariant in
    let place = c.place_of-lsn.ensures ∙ ap (λ n. n + length c.args.units.now) c.begin_of-begin.ensures in (
      opening_of c.args.opening.now,
      so_far g.T.TakesRecords.has_taken c.args.opening.now c.args.units.now c.records.rest.now c.records.taker c.place_of-lsn.result before place,
      before.taken,
      taken-place g.T.TakesRecords.has_taken c.args.opening.now c.args.units.now c.records.rest.now c.records.taker c.place_of-lsn.result before place,
    )

pub records-preserved : goal.records-preserved
records-preserved g c =
    let before = c.records.invariant in
    let place = c.place_of-lsn.ensures ∙ ap (λ n. n + length c.args.units.now) c.begin_of-begin.ensures in
    let dropped = c.split_at.ensures.back ∙ ap (λ n. drop n c.records.rest.now) c.in-Ok-read.ensures.found.1 in
    taken-step g.T.TakesRecords.has_taken c.args.opening.now c.args.units.now c.records.rest.now c.records.taker c.place_of-lsn.result before place
    c.in-Ok-read.rec c.split_at.result.1.now c.in-Ok-read.ensures.found.0 dropped c.take.new.self
    (c.in-Ok-take.ensures.taken (opening_of c.args.opening.now) _ before.taken)

pub unlawful-requires-clause-fails : goal.unlawful-requires-clause-fails
unlawful-requires-clause-fails g c =
    let before = c.records.invariant in
    let place = c.place_of-lsn.ensures ∙ ap (λ n. n + length c.args.units.now) c.begin_of-begin.ensures in
    let dropped = c.split_at.ensures.back ∙ ap (λ n. drop n c.records.rest.now) c.in-Ok-read.ensures.found.1 in
    let front = so_far g.T.TakesRecords.has_taken c.args.opening.now c.args.units.now c.records.rest.now c.records.taker c.place_of-lsn.result before place in
    rw c.in-Err-Why.field-0-is
    (failing_record-FailsBefore g.T.TakesRecords.has_taken c.args.opening.now c.args.units.now c.records.rest.now c.records.taker c.place_of-lsn.result before place
    c.in-Ok-read.rec c.split_at.result.1.now c.in-Ok-read.ensures.found.0 dropped c.in-Err-Why.why (g.met.T.TakesRecords.lawful _ _ _ before.taken)
    (subst (IsTakeFault (opening_of c.args.opening.now) front (entry_at c.place_of-lsn.result c.in-Ok-read.rec)) c.in-Err-Why.field-0-is
    (c.in-Err-Why.ensures.fault (opening_of c.args.opening.now) _ before.taken)))
