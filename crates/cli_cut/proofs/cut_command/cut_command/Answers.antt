use Rattle.std.proofs.Common.{ap}
use Rattle.log_recovery.specs.Text.{rows_text}
use Rattle.lsn_space.specs.Opening.{Opening}
use Rattle.cli_cut.proofs.AnswerLemmas.{answers_cut-fine, answers_cut-write}
use Rattle.cli_cut.proofs.TryingLemmas.{makes_log-fine, makes_log-unmade, makes_log-write, tells_faults-fine, tells_faults-unmade, tells_faults-write}
use Rattle.cli_cut.proofs.cut_command.cut_command.Goals as goal

-- no log is made
pub returns-in-Err : goal.returns-in-Err
returns-in-Err g c = record {
  done = makes_log-unmade g.D.LogDisk g.S.Source g.K.Sink _ _ _ _ _ _ _ _ _ _ _ c.in-Err.detail c.in-Err.ensures;
  faults = tells_faults-unmade g.D.LogDisk g.S.Source g.K.Sink _ _ _ _ _ _ _ _ _ _ _ c.in-Err.detail c.in-Err.ensures;
}

-- the log is made, and its text written
pub returns-in-Ok-put_accounts : goal.returns-in-Ok-put_accounts
returns-in-Ok-put_accounts g c =
    let made = c.in-Ok.ensures in
    let text = rw (ap (λ (o : Opening). rows_text o.lsn o.accounts) c.opening.view_is) at c.in-Ok-put_accounts.ensures.all in
    record {
      done = makes_log-fine g.D.LogDisk g.S.Source g.K.Sink _ _ _ _ _ _ _ _ _ _ _ _ c.in-Ok.opening made (answers_cut-fine _ _ _ _ c.in-Ok.opening made.ok text);
      faults = tells_faults-fine g.D.LogDisk g.S.Source g.K.Sink _ _ _ _ _ _ _ _ _ _ _ _ c.in-Ok.opening made c.in-Ok-put_accounts.ensures.cause.fine;
    }

-- the log is made, and the writing failed
pub returns : goal.returns
returns g c =
    let made = c.in-Ok.ensures in
    let text = rw (ap (λ (o : Opening). rows_text o.lsn o.accounts) c.opening.view_is) at c.in-Err-put_accounts.ensures.prefix in
    record {
      done = makes_log-write g.D.LogDisk g.S.Source g.K.Sink _ _ _ _ _ _ _ _ _ _ _ _ c.in-Ok.opening made (answers_cut-write _ _ _ _ c.in-Ok.opening made.ok text);
      faults = tells_faults-write g.D.LogDisk g.S.Source g.K.Sink _ _ _ _ _ _ _ _ _ _ _ _ c.in-Ok.opening made c.in-Err-put_accounts.ensures.cause.failed;
    }
