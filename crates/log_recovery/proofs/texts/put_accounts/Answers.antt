use Rattle.std.proofs.Common.{◌≡◌, ◌++◌, ◌∙◌, ℕ, length, refl, sym, subst, arith}
use Rattle.std.proofs.lemmas.List.{append-nil}
use Rattle.std.proofs.lemmas.Result.{err_from_is_err_and, on_ok_weaker, on_err_weaker}
use Rattle.log_disk.specs.Streams.{AppendsPart, AppendsBut}
use Rattle.log_disk.proofs.Blocks.{AppendsBut-trans_Appends, AppendsBut-trans_AppendsPart, AppendsPart-append}
use Rattle.log_disk.proofs.Uses.{HasCause-same_before}
use Rattle.log_recovery.specs.Text.{lsn_line, account_lines}
use Rattle.log_recovery.proofs.TextLemmas.{balance_in, AppendsBut-line, AppendsPart-line}
use Rattle.log_recovery.proofs.texts.put_accounts.Goals as goal

pub returns-in_err-put_end : goal.returns-in_err-put_end
returns-in_err-put_end g c =
    let failed = err_from_is_err_and c.from_residual.result c.from_residual.ensures.1 in
    let cut = subst (λ waiting. AppendsPart (g.K.Sink.held_bytes c.args.sink.now) (g.K.Sink.held_bytes c.put_end.new.sink) (waiting ++ lsn_line c.args.lsn))
    c.new-block.ensures c.in_err-put_end.ensures.prefix in
    rw failed.1 record { all = tt; prefix = AppendsPart-append _ _ _ (lsn_line c.args.lsn) _ cut refl; cause = c.in_err-put_end.ensures.cause }

pub returns-in_err-put_balance : goal.returns-in_err-put_balance
returns-in_err-put_balance g c =
    let failed = err_from_is_err_and c.from_residual-in_err-put_balance.result c.from_residual-in_err-put_balance.ensures.1 in
    rw failed.1 record {
      all = tt;
      prefix = AppendsPart-line _ _ _ (lsn_line c.args.lsn) c.args.accounts.now.rows c.loop-account.account c.at-balance.result
          c.at-balance.ensures _ c.loop-account.invariant.written (omega arith) c.in_err-put_balance.ensures.prefix;
      cause = HasCause-same_before _ _ _ _ c.loop-account.invariant.same c.in_err-put_balance.ensures.cause;
    }

pub loop-account-init : goal.loop-account-init
loop-account-init g c =
    let written = AppendsBut (g.K.Sink.held_bytes c.args.sink.now) (g.K.Sink.held_bytes c.put_end.new.sink) in
    let put = subst (λ waiting. written (waiting ++ lsn_line c.args.lsn) c.put_end.new.block) c.new-block.ensures c.in_ok-put_end.ensures.all in
    record {
      written = subst (λ bytes. written bytes c.put_end.new.block) (sym (append-nil (lsn_line c.args.lsn))) put;
      same = c.in_ok-put_end.ensures.cause.fine;
    }

pub loop-account-preserved : goal.loop-account-preserved
loop-account-preserved g c = record {
  written = AppendsBut-line _ _ _ (lsn_line c.args.lsn) c.args.accounts.now.rows c.loop-account.account c.at-balance.result
      c.at-balance.ensures _ c.loop-account.invariant.written _ c.in_ok-put_balance.ensures.all;
  same = c.in_ok-put_balance.ensures.cause.fine ∙ c.loop-account.invariant.same;
}

pub returns : goal.returns
returns g c =
    let rows = c.args.accounts.now.rows in
    let all : c.loop-account.account ≡ length rows = omega arith in
    let put = subst
    (λ (n : ℕ). AppendsBut (g.K.Sink.held_bytes c.args.sink.now) (g.K.Sink.held_bytes c.loop-account.sink) (lsn_line c.args.lsn ++ account_lines (balance_in rows) n) c.loop-account.block)
    all c.loop-account.invariant.written in record {
      all = on_ok_weaker c.write_out.result (AppendsBut-trans_Appends _ _ _ _ _ put) c.write_out.ensures.all;
      prefix = on_err_weaker c.write_out.result (AppendsBut-trans_AppendsPart _ _ _ _ _ put) c.write_out.ensures.prefix;
      cause = HasCause-same_before _ _ _ c.write_out.result c.loop-account.invariant.same c.write_out.ensures.cause;
    }
