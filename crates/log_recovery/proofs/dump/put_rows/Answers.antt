use Rattle.std.proofs.Common.{◌∙◌, refl, arith}
use Rattle.std.proofs.lemmas.Result.{err_from_is_err_and}
use Rattle.log_disk.proofs.Uses.{HasCause-ok, HasCause-same_before}
use Rattle.log_recovery.proofs.SnapshotLemmas.{rows-none, rows-more, row_line_cut-rows_part, rows_front-all_lines_put}
use Rattle.log_recovery.proofs.dump.put_rows.Goals as goal

pub accounts-init : goal.accounts-init
accounts-init g c = record { front = rows-none c.args.accounts.now.rows _ _; same = refl }

pub accounts-preserved : goal.accounts-preserved
accounts-preserved g c = record {
  front = rows-more c.args.accounts.now.rows c.accounts.account c.at.result _ _ _ _ c.at.ensures c.accounts.invariant.front _ _ c.in_ok-put_row.ensures.all;
  same = c.in_ok-put_row.ensures.cause.fine ∙ c.accounts.invariant.same;
}

pub returns-in_err-put_row : goal.returns-in_err-put_row
returns-in_err-put_row g c =
    let failed = err_from_is_err_and c.from_residual.result c.from_residual.ensures.1 in
    rw failed.1 record {
      all = tt;
      prefix = row_line_cut-rows_part c.args.accounts.now.rows c.accounts.account c.at.result _ _ _ _ c.at.ensures c.accounts.invariant.front _ c.in_err-put_row.ensures.prefix;
      cause = HasCause-same_before _ _ _ _ c.accounts.invariant.same c.in_err-put_row.ensures.cause;
    }

pub returns : goal.returns
returns g c = record {
  all = rows_front-all_lines_put c.args.accounts.now.rows c.accounts.account _ _ _ _ (omega arith) c.accounts.invariant.front;
  prefix = tt;
  cause = HasCause-ok _ _ _ c.accounts.invariant.same;
}
