use Rattle.std.proofs.Common.{◌∙◌, ◌+◌, ◌++◌, length, ap, sym, subst, append_assoc}
use Rattle.log_disk.specs.Streams.{AppendsPart, AppendsBut}
use Rattle.log_recovery.specs.Dump.{opening_lines}
use Rattle.std.proofs.lemmas.Bool.{eqb-true, eqb-false}
use Rattle.std.proofs.lemmas.List.{nil_from_length}
use Rattle.std.proofs.lemmas.Result.{err_from_is_err_and, on_ok_weaker, on_err_weaker}
use Rattle.log_disk.proofs.Blocks.{AppendsBut-trans_Appends, AppendsBut-trans_AppendsPart, AppendsPart-append}
use Rattle.log_disk.proofs.Uses.{HasCause-same_before}
use Rattle.log_recovery.proofs.DumpLemmas.{dumps-none, dumps-rest_le_end, dumps-rest_begins_with, drop_spelling-shorter, dumps-more}
use Rattle.log_recovery.proofs.DumpLemmas.{record_line_cut-dump_part, lsn_line_put-dump_whole, lsn_line_cut-dump_part}
use Rattle.log_recovery.proofs.dump.put_dump.Goals as goal

pub records-init : goal.records-init
records-init g c = record {
  dumped = rw (c.as_slice-rest.ensures) (dumps-none c.args.listed.now.opening _ _ c.requires.0 _ _ c.requires.1.list
      (subst (λ waiting. AppendsBut (g.K.Sink.held_bytes c.args.sink.now) (g.K.Sink.held_bytes c.put_opening.new.sink)
      (waiting ++ opening_lines c.args.listed.now.opening) c.put_opening.new.block) c.new-block.ensures c.in_ok-put_opening.ensures.all));
  same = c.in_ok-put_opening.ensures.cause.fine;
}

pub start_of-start-requires : goal.start_of-start-requires
start_of-start-requires g c =
    dumps-rest_le_end _ _ _ _ _ _ c.records.invariant.dumped c.args.listed.now.tail.next (c.requires.1.end ∙ ap
    (λ units. c.args.listed.now.opening.lsn + length units) (sym c.requires.1.list.units_are))

pub first_of-rec-requires : goal.first_of-rec-requires
first_of-rec-requires g c = dumps-rest_begins_with _ _ _ _ _ _ c.records.invariant.dumped (eqb-false _ _ (sym c.is_empty.ensures ∙ c.records-test.true))

pub returns-in_err-put_record-clause-prefix : goal.returns-in_err-put_record-clause-prefix
returns-in_err-put_record-clause-prefix g c = λ records has.
    let failed = err_from_is_err_and c.from_residual-in_err-put_record.result c.from_residual-in_err-put_record.ensures.1 in
    let place = c.start_of-start.ensures ∙ has.end ∙ ap (λ units. c.args.listed.now.opening.lsn + length units) (sym has.list.units_are) in
    rw failed.1 (record_line_cut-dump_part _ _ _ _ _ _ c.records.invariant.dumped c.start_of-start.result place c.first_of-rec.result.0 c.first_of-rec.ensures.rec
    (eqb-false _ _ (sym c.is_empty.ensures ∙ c.records-test.true)) _ records has.list c.in_err-put_record.ensures.prefix)

pub records-preserved : goal.records-preserved
records-preserved g c =
    let place = c.start_of-start.ensures ∙ c.requires.1.end ∙ ap (λ units. c.args.listed.now.opening.lsn + length units) (sym c.requires.1.list.units_are) in
    record {
      dumped = dumps-more _ _ _ _ _ _ c.records.invariant.dumped c.start_of-start.result place c.first_of-rec.result.0 c.first_of-rec.ensures.rec
          (eqb-false _ _ (sym c.is_empty.ensures ∙ c.records-test.true)) _ _ _ c.first_of-rec.ensures.behind c.in_ok-put_record.ensures.all;
      same = c.in_ok-put_record.ensures.cause.fine ∙ c.records.invariant.same;
    }

pub records-smaller : goal.records-smaller
records-smaller g c = drop_spelling-shorter c.records.rest.now c.first_of-rec.result.1.now c.first_of-rec.result.0
    (eqb-false _ _ (sym c.is_empty.ensures ∙ c.records-test.true)) c.first_of-rec.ensures.behind

pub returns-in_err-put_record-clause-all : goal.returns-in_err-put_record-clause-all
returns-in_err-put_record-clause-all g c = λ records has. let failed = err_from_is_err_and c.from_residual-in_err-put_record.result c.from_residual-in_err-put_record.ensures.1 in rw failed.1 tt

pub returns-in_err-put_record-clause-cause : goal.returns-in_err-put_record-clause-cause
returns-in_err-put_record-clause-cause g c = let failed = err_from_is_err_and c.from_residual-in_err-put_record.result c.from_residual-in_err-put_record.ensures.1 in
    rw failed.1 (HasCause-same_before (g.K.Sink.faults c.args.sink.now) (g.K.Sink.faults c.records.sink) (g.K.Sink.faults c.put_record.new.sink)
    _ c.records.invariant.same c.in_err-put_record.ensures.cause)

pub returns-in_err-put_end-clause-prefix : goal.returns-in_err-put_end-clause-prefix
returns-in_err-put_end-clause-prefix g c = λ records has.
    let failed = err_from_is_err_and c.from_residual-in_err-put_end.result c.from_residual-in_err-put_end.ensures.1 in
    let empty = nil_from_length c.records.rest.now (eqb-true _ _ (sym c.is_empty.ensures ∙ c.records-test.false)) in
    rw failed.1 (lsn_line_cut-dump_part _ _ _ _ _ _ c.records.invariant.dumped empty records has.list _ c.args.listed.now.tail.next has.end c.in_err-put_end.ensures.prefix)

pub returns-in_err-put_end-clause-all : goal.returns-in_err-put_end-clause-all
returns-in_err-put_end-clause-all g c = λ records has.
    let failed = err_from_is_err_and c.from_residual-in_err-put_end.result c.from_residual-in_err-put_end.ensures.1 in rw failed.1 tt

pub returns-in_err-put_end-clause-cause : goal.returns-in_err-put_end-clause-cause
returns-in_err-put_end-clause-cause g c =
    let failed = err_from_is_err_and c.from_residual-in_err-put_end.result c.from_residual-in_err-put_end.ensures.1 in
    rw failed.1 (HasCause-same_before _ _ _ _ c.records.invariant.same c.in_err-put_end.ensures.cause)

pub returns-clause-all : goal.returns-clause-all
returns-clause-all g c = λ records has.
    let empty = nil_from_length c.records.rest.now (eqb-true _ _ (sym c.is_empty.ensures ∙ c.records-test.false)) in
    let end = lsn_line_put-dump_whole _ _ _ _ _ _ c.records.invariant.dumped empty records has.list _ _ c.args.listed.now.tail.next has.end c.in_ok-put_end.ensures.all in
    on_ok_weaker c.write_out.result (AppendsBut-trans_Appends _ _ _ _ _ end) c.write_out.ensures.all

pub returns-clause-prefix : goal.returns-clause-prefix
returns-clause-prefix g c = λ records has.
    let empty = nil_from_length c.records.rest.now (eqb-true _ _ (sym c.is_empty.ensures ∙ c.records-test.false)) in
    let end = lsn_line_put-dump_whole _ _ _ _ _ _ c.records.invariant.dumped empty records has.list _ _ c.args.listed.now.tail.next has.end c.in_ok-put_end.ensures.all in
    on_err_weaker c.write_out.result (AppendsBut-trans_AppendsPart _ _ _ _ _ end) c.write_out.ensures.prefix

pub returns-clause-cause : goal.returns-clause-cause
returns-clause-cause g c = HasCause-same_before _ _ _ c.write_out.result (c.in_ok-put_end.ensures.cause.fine ∙ c.records.invariant.same) c.write_out.ensures.cause

pub returns-in_err-put_opening-clause-prefix : goal.returns-in_err-put_opening-clause-prefix
returns-in_err-put_opening-clause-prefix g c = λ records has.
    let failed = err_from_is_err_and c.from_residual.result c.from_residual.ensures.1 in
    let cut = subst (λ waiting. AppendsPart (g.K.Sink.held_bytes c.args.sink.now) (g.K.Sink.held_bytes c.put_opening.new.sink) (waiting ++ opening_lines c.args.listed.now.opening))
    c.new-block.ensures c.in_err-put_opening.ensures.prefix in
    rw failed.1 (AppendsPart-append _ _ _ _ _ cut (append_assoc (opening_lines c.args.listed.now.opening) _ _))

pub returns-in_err-put_opening-clause-all : goal.returns-in_err-put_opening-clause-all
returns-in_err-put_opening-clause-all g c = λ records has. let failed = err_from_is_err_and c.from_residual.result c.from_residual.ensures.1 in rw failed.1 tt

pub returns-in_err-put_opening-clause-cause : goal.returns-in_err-put_opening-clause-cause
returns-in_err-put_opening-clause-cause g c =
    let failed = err_from_is_err_and c.from_residual.result c.from_residual.ensures.1 in rw failed.1 c.in_err-put_opening.ensures.cause
