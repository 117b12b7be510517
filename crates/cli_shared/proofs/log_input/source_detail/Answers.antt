use Rattle.cli_shared.proofs.SourceLemmas.{recover_detail-TellsSource}
use Rattle.cli_shared.proofs.log_input.source_detail.Goals as goal

pub returns-in-Log : goal.returns-in-Log
returns-in-Log c = rw c.in-Log.is (recover_detail-TellsSource c.in-Log.fault _ c.detail_of.ensures)
