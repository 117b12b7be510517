use Rattle.cli_cut.proofs.SameLemmas.{IsCutLog-recover_alike}
use Rattle.cli_cut.proofs.laws.cut_recovers_the_same.Goals as goal

pub returns : goal.returns
returns c = IsCutLog-recover_alike
