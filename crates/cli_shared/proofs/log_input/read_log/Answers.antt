use Rattle.cli_shared.proofs.SourceLemmas.{TellsSource-CountsWhere}
use Rattle.cli_shared.proofs.log_input.read_log.Goals as goal

pub returns-in-Err-clause-err : goal.returns-in-Err-clause-err
returns-in-Err-clause-err g c = c.source_detail.ensures.is _ _ c.in-Err.ensures.fault

pub returns-in-Err-clause-read : goal.returns-in-Err-clause-read
returns-in-Err-clause-read g c = TellsSource-CountsWhere c.in-Err.fault _ _ _ c.source_detail.ensures c.in-Err.ensures.failed
