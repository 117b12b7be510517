use Rattle.cli_laws.proofs.TotalLemmas.{total-in_range}
use Rattle.cli_laws.proofs.laws.total_at_the_log_end.Goals as goal

pub returns : goal.returns
returns c = total-in_range
