use Rattle.std.proofs.Common.{◌∙◌, ◌++◌, subst, arith}
use Rattle.std.proofs.lemmas.Result.{err_from_is_err_and, on_ok_weaker, on_err_weaker}
use Rattle.log_disk.specs.Streams.{AppendsPart, AppendsBut}
use Rattle.log_disk.proofs.Blocks.{AppendsBut-trans_Appends, AppendsBut-trans_AppendsPart}
use Rattle.cli_view.proofs.StatementLemmas.{open_line-appends_part, entry_line-appends_but, entry_line-appends_part, lsn_line-appends_but, lsn_line-appends_part}
use Rattle.cli_view.proofs.statement_text.put_statement.Goals as goal

pub returns-in_err-put-clause-prefix : goal.returns-in_err-put-clause-prefix
returns-in_err-put-clause-prefix g c =
    let failed = err_from_is_err_and c.from_residual.result c.from_residual.ensures.1 in
    rw failed.1 (open_line-appends_part _ _ _ _ _ _ _ c.new-block.ensures (c.as_slice.ensures.bytes ∙ c.first_line.ensures) c.in_err-put.ensures.prefix)

pub returns-in_err-put-2-clause-prefix : goal.returns-in_err-put-2-clause-prefix
returns-in_err-put-2-clause-prefix g c =
    let failed = err_from_is_err_and c.from_residual-in_err-put-2.result c.from_residual-in_err-put-2.ensures.1 in
    let cut = subst (λ line. AppendsPart (g.K.Sink.held_bytes c.entries.sink) (g.K.Sink.held_bytes c.put-in-entries.new.sink) (c.entries.block ++ line))
    (c.as_slice-in-entries.ensures.bytes ∙ c.line_of.ensures) c.in_err-put-2.ensures.prefix in
    rw failed.1 (entry_line-appends_part _ _ _ _ _ _ _ c.entries.i c.at.result (omega (arith, c.entries-test.true, c.count-count.ensures)) (c.at.ensures c.at.result) c.entries.invariant.written cut)

pub entries-preserved : goal.entries-preserved
entries-preserved g c =
    let put = subst
    (λ line. AppendsBut (g.K.Sink.held_bytes c.entries.sink) (g.K.Sink.held_bytes c.put-in-entries.new.sink) (c.entries.block ++ line) c.put-in-entries.new.self)
    (c.as_slice-in-entries.ensures.bytes ∙ c.line_of.ensures) c.in_ok-put-2.ensures.all in
    record {
      written = entry_line-appends_but _ _ c.args.end _ _ _ _ c.entries.i c.at.result (omega (arith, c.entries-test.true, c.count-count.ensures))
          (c.at.ensures c.at.result) c.entries.invariant.written _ put;
      same = c.in_ok-put-2.ensures.cause.fine ∙ c.entries.invariant.same;
    }

pub returns-in_err-put_end-clause-prefix : goal.returns-in_err-put_end-clause-prefix
returns-in_err-put_end-clause-prefix g c =
    let failed = err_from_is_err_and c.from_residual-in_err-put_end.result c.from_residual-in_err-put_end.ensures.1 in
    rw failed.1 (lsn_line-appends_part _ _ _ _ _ _ _ c.entries.i (omega (arith, c.entries-test.false, c.count-count.ensures)) c.entries.invariant.written c.in_err-put_end.ensures.prefix)

pub returns-clause-all : goal.returns-clause-all
returns-clause-all g c =
    let put = lsn_line-appends_but _ _ _ _ _ _ _ c.entries.i (omega (arith, c.entries-test.false, c.count-count.ensures)) c.entries.invariant.written _ c.in_ok-put_end.ensures.all in
    on_ok_weaker c.write_out.result (AppendsBut-trans_Appends _ _ _ _ _ put) c.write_out.ensures.all

pub returns-clause-prefix : goal.returns-clause-prefix
returns-clause-prefix g c =
    let put = lsn_line-appends_but _ _ _ _ _ _ _ c.entries.i (omega (arith, c.entries-test.false, c.count-count.ensures)) c.entries.invariant.written _ c.in_ok-put_end.ensures.all in
    on_err_weaker c.write_out.result (AppendsBut-trans_AppendsPart _ _ _ _ _ put) c.write_out.ensures.prefix
