use Rattle.cli_cut.proofs.TryingLemmas.{makes_log-fine, makes_log-unmade, makes_log-write, tells_faults-fine, tells_faults-unmade, tells_faults-write}
use Rattle.cli_cut.proofs.UpgradingLemmas.{reads_log-answers_fine, reads_log-answers_write}
use Rattle.cli_cut.proofs.upgrade_command.upgrade_command.Goals as goal

-- no log is made
pub returns-in-Err : goal.returns-in-Err
returns-in-Err g c = record {
  done = makes_log-unmade g.D.LogDisk g.S.Source g.K.Sink _ _ _ _ _ _ _ _ _ _ _ c.in-Err.detail c.in-Err.ensures;
  faults = tells_faults-unmade g.D.LogDisk g.S.Source g.K.Sink _ _ _ _ _ _ _ _ _ _ _ c.in-Err.detail c.in-Err.ensures;
}

-- the log is made, and its text written
pub returns-in-Ok-put_accounts : goal.returns-in-Ok-put_accounts
returns-in-Ok-put_accounts g c =
    let made = c.in-Ok.ensures in
    let recovered = c.in-Ok.recovered in
    let written = c.in-Ok-put_accounts.ensures in
    record {
      done = makes_log-fine g.D.LogDisk g.S.Source g.K.Sink _ _ _ _ _ _ _ _ _ _ _ _ recovered made (reads_log-answers_fine _ _ _ _ recovered made.ok written.all);
      faults = tells_faults-fine g.D.LogDisk g.S.Source g.K.Sink _ _ _ _ _ _ _ _ _ _ _ _ recovered made written.cause.fine;
    }

-- the log is made, and the writing failed
pub returns : goal.returns
returns g c =
    let made = c.in-Ok.ensures in
    let recovered = c.in-Ok.recovered in
    let written = c.in-Err-put_accounts.ensures in
    record {
      done = makes_log-write g.D.LogDisk g.S.Source g.K.Sink _ _ _ _ _ _ _ _ _ _ _ _ recovered made (reads_log-answers_write _ _ _ _ recovered made.ok written.prefix);
      faults = tells_faults-write g.D.LogDisk g.S.Source g.K.Sink _ _ _ _ _ _ _ _ _ _ _ _ recovered made written.cause.failed;
    }
