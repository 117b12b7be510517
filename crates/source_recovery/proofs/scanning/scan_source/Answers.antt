use Rattle.std.proofs.Common.{◌∙◌, ℕ, List, sym, subst, arith}
use Rattle.std.proofs.lemmas.Result.{err_from_is_err_and}
use Rattle.lsn_space.specs.Opening.{Opening}
use Rattle.segment_file.specs.Log.{Log}
use Rattle.segment_file.specs.StandingLog.{LogStandsAt, tail_at}
use Rattle.segment_file.specs.declared.scan_result.Tail.{Tail}
use Rattle.source_recovery.specs.Reading.{HasReadLog}
use Rattle.source_recovery.proofs.JudgedLemmas.{GaveAll-ReadsAll, told-CountsWhere}
use Rattle.source_recovery.proofs.scanning.scan_source.Goals as goal

pub returns-in_err-reader-clause-failed : goal.returns-in_err-reader-clause-failed
returns-in_err-reader-clause-failed g c =
    told-CountsWhere c.in_err-reader.field-0.0 _ _ _ c.from_residual.ensures.1 c.in_err-reader.ensures.failed

pub batches-init : goal.batches-init
batches-init g c = record {
  read = subst (λ (o : Opening). HasReadLog (g.S.Source.left c.args.source.now) (g.S.Source.left c.begin.new.source) c.in_ok-reader.reader
      (record { opening = o; units = c.in_ok-reader.units.items })) (sym c.opening.view_is) c.in_ok-reader.ensures.found;
  no_fault = c.in_ok-reader.ensures.failed.fine (λ is. cc);
}

pub next_batch-requires : goal.next_batch-requires
next_batch-requires g c = omega (arith, c.batches.invariant.read.next)

pub returns-in_err-next_batch-clause-fault : goal.returns-in_err-next_batch-clause-fault
returns-in_err-next_batch-clause-fault g c =
    let failed = err_from_is_err_and c.from_residual-in_err-next_batch.result c.from_residual-in_err-next_batch.ensures.1 in
    rw failed.1 (failed.2.listed _ _ (c.in_err-next_batch.ensures.fault _ _ c.batches.invariant.read))

pub returns-in_err-next_batch-clause-failed : goal.returns-in_err-next_batch-clause-failed
returns-in_err-next_batch-clause-failed g c =
    told-CountsWhere c.in_err-next_batch.field-0.0 _ _ _ c.from_residual-in_err-next_batch.ensures.1
    (rw c.batches.invariant.no_fault at c.in_err-next_batch.ensures.failed)

pub batches-smaller : goal.batches-smaller
batches-smaller g c =
    let batch = c.in_ok-next_batch.ensures.batch (cc) in omega (arith, batch.next, batch.some, batch.total)

pub batches-preserved : goal.batches-preserved
batches-preserved g c =
    let batch = c.in_ok-next_batch.ensures.batch (cc) in
    let opening : Opening = record { lsn = c.opening.inside.lsn; txn = c.opening.inside.txn; accounts = c.opening.inside.accounts.rows } in record {
      read = subst (λ units. HasReadLog (g.S.Source.left c.args.source.now) (g.S.Source.left c.next_batch.new.source) c.next_batch.new.self
          (record { opening = opening; units = units })) (sym batch.added) (batch.reads _ _ c.batches.invariant.read);
      no_fault = c.in_ok-next_batch.ensures.failed.fine (λ is. cc) ∙ c.batches.invariant.no_fault;
    }

pub returns-clause-found : goal.returns-clause-found
returns-clause-found g c =
    let end = c.in_ok-next_batch.ensures.end (cc) in
    let opening : Opening = record { lsn = c.opening.inside.lsn; txn = c.opening.inside.txn; accounts = c.opening.inside.accounts.rows } in
    let log : Log = record { opening = opening; units = c.batches.units.items } in
    let ends = end.ends _ log c.batches.invariant.read in
    let place = c.tail.ensures ∙ (λ i. tail_at (end.at i) (end.next i)) in
    let stands : LogStandsAt c.tail.result log ends.bytes = subst (λ (tail : Tail). LogStandsAt tail log ends.bytes) (sym place) ends.stands in
    let spelled : LogStandsAt c.tail.result (record { opening = opening; units = c.new.result }) ends.bytes =
    subst (λ (units : List ℕ). LogStandsAt c.tail.result (record { opening = opening; units = units }) ends.bytes)
    (sym (c.new.ensures ∙ end.units_are)) stands in (
      ends.bytes,
      GaveAll-ReadsAll _ _ ends.bytes ends.gave,
      subst (λ (o : Opening). LogStandsAt c.tail.result (record { opening = o; units = c.new.result }) ends.bytes) c.opening.view_is spelled,
    )

pub returns-clause-failed : goal.returns-clause-failed
returns-clause-failed g c = record {
  counted = λ is. absurd (cc);
  fine = λ _. c.in_ok-next_batch.ensures.failed.fine (λ is. cc) ∙ c.batches.invariant.no_fault;
}
