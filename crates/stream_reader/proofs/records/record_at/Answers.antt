use Rattle.std.proofs.Common.{rules, ◌∙◌, sym, subst, drop, arith}
use Rattle.std.proofs.lemmas.List.{length-drop}
use Rattle.std.proofs.lemmas.Result.{err_from_is_err_and}
use Rattle.log_record.specs.Spelling.{BeginsWith}
use Rattle.stream_reader.proofs.RecordLemmas.{front_begins-whole_begins, whole_begins-front_begins, size_of-header_at, size_of-within_26_and_units}
use Rattle.stream_reader.proofs.records.record_at.Goals as goal

pub returns-in_err-rec-clause-bad : goal.returns-in_err-rec-clause-bad
returns-in_err-rec-clause-bad c =
    let failed = err_from_is_err_and c.from_residual.result c.from_residual.ensures.1 in
    let us = c.args.batch.now.units in
    let h = c.of-header.result in
    rw failed.1 (λ rec begins.
    let size = size_of-header_at us c.args.at h.kind h.units h.field h.txn rec c.requires (sym c.at.ensures
    ∙ c.of-header.ensures) (search rules) (search rules) (search rules) begins in
    let bounds = size_of-within_26_and_units (drop c.args.at us) rec begins in
    c.in_err-rec.ensures.bad rec (subst (λ units. BeginsWith units rec) (sym (c.as_slice.ensures.units ∙ c.units_at-units.ensures))
    (whole_begins-front_begins (drop c.args.at us) c.min-count.result rec begins
    (omega (arith, size, bounds.1, bounds.2, length-drop c.args.at us, c.count.ensures, c.min.ensures, c.min-count.ensures)))))

pub returns-clause-found : goal.returns-clause-found
returns-clause-found c =
    let found = c.in_ok-rec.ensures.found in (
      front_begins-whole_begins (drop c.args.at c.args.batch.now.units) c.min-count.result c.in_ok-rec.rec
          (subst (λ units. BeginsWith units c.in_ok-rec.rec) (c.as_slice.ensures.units ∙ c.units_at-units.ensures) found.0),
      found.1,
    )
