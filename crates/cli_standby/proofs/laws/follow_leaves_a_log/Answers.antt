use Rattle.cli_standby.proofs.LeavingLemmas.{leaves-a-log}
use Rattle.cli_standby.proofs.laws.follow_leaves_a_log.Goals as goal

pub returns : goal.returns
returns g c = λ old new detail answers. leaves-a-log g.D.LogDisk g.met.D.LogDisk.only_now old new detail answers
