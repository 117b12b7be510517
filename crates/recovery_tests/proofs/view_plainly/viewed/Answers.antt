use Rattle.std.proofs.Common.{◌≡◌, ◌+◌, ◌∙◌, ap, arith, drop, length, refl, reverse, subst, sym}
use Rattle.log_record.specs.Spelling.{spelling}
use Rattle.log_record.specs.declared.rec.Placed.{Placed}
use Rattle.lock_core.specs.AccountRows.{opening_of}
use Rattle.recovery_tests.proofs.ViewedLemmas.{IsGiven, given_record-within_log, is_given-push}
use Rattle.recovery_tests.proofs.view_plainly.viewed.Goals as goal

pub add-requires-clause-taken : goal.add-requires-clause-taken
add-requires-clause-taken c = (
  opening_of c.args.opening.now,
  reverse c.records.entries.items,
  c.records.invariant.viewed,
  c.records.invariant.place,
)

pub add-requires-clause-fits : goal.add-requires-clause-fits
add-requires-clause-fits c =
    given_record-within_log (opening_of c.args.opening.now) c.args.units.now c.records.rest.now c.records.view c.records.entries.items c.records.lsn c.records.invariant
    c.in-Ok-read.rec c.in-Ok-read.ensures.found.0 c.requires.fits

pub records-preserved : goal.records-preserved
records-preserved c =
    let opening = opening_of c.args.opening.now in
    let rec = c.in-Ok-read.rec in
    let entry : Placed = record { end = c.new-lsn.result; rec = rec } in
    let dropped = c.split_at.ensures.back ∙ ap (λ n. drop n c.records.rest.now) c.in-Ok-read.ensures.found.1 in
    let end : c.new-lsn.result ≡ c.records.lsn + length (spelling rec) =
    omega (arith, c.new-lsn.ensures, c.units.ensures, c.in-Ok-read.ensures.found.1, c.records.invariant.left, c.requires.fits) in
    let given = is_given-push opening c.args.units.now c.records.rest.now c.records.view c.records.entries.items c.records.lsn c.records.invariant
    rec c.in-Ok-read.ensures.found.0 c.split_at.result.1.now c.add.new.self entry dropped refl end
    (c.in-Ok-add.ensures.taken opening _ c.records.invariant.viewed) in
    subst (λ items. IsGiven opening c.args.units.now c.split_at.result.1.now c.add.new.self items c.new-lsn.result) (sym c.in-Ok-push.ensures.items) given
