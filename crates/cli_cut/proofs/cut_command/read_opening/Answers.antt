use Rattle.std.proofs.Common.{arith}
use Rattle.log_recovery.proofs.OpenedLemmas.{held_shown-snapshot}
use Rattle.cli_shared.proofs.SourceLemmas.{TellsSource-CountsWhere}
use Rattle.cli_cut.proofs.cut_command.read_opening.Goals as goal

pub returns-in-Ok-clause-told : goal.returns-in-Ok-clause-told
returns-in-Ok-clause-told g c =
    let found = c.in-Ok.ensures.found in (
      found.0,
      found.2.list,
      found.1,
      found.2.held,
      record { lsn = found.2.lsn; txn = omega (arith, found.2.next_txn); accounts = found.2.accounts },
    )

pub returns-in-Ok-clause-held : goal.returns-in-Ok-clause-held
returns-in-Ok-clause-held g c =
    let found = c.in-Ok.ensures.found in
    held_shown-snapshot found.0 found.2.list found.2.held _ _ _ found.2.accounts found.2.lsn
    (omega (arith, found.2.next_txn, c.in-Ok.ensures.number))

pub returns-in-Err-clause-told : goal.returns-in-Err-clause-told
returns-in-Err-clause-told g c = c.source_detail.ensures.is _ _ c.in-Err.ensures.fault

pub returns-in-Err-clause-read : goal.returns-in-Err-clause-read
returns-in-Err-clause-read g c = TellsSource-CountsWhere c.in-Err.fault _ _ _ c.source_detail.ensures c.in-Err.ensures.failed
