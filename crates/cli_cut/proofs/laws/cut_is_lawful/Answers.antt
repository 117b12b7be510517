use Rattle.cli_cut.proofs.SameLemmas.{cut_log-holds_lawful}
use Rattle.cli_cut.proofs.laws.cut_is_lawful.Goals as goal

pub returns : goal.returns
returns c = cut_log-holds_lawful
