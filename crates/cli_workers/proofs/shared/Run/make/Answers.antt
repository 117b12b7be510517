use Rattle.std.proofs.Common.{refl}
use Rattle.cli_workers.proofs.shared.Run.make.Goals as goal

pub returns-clause-wait : goal.returns-clause-wait
returns-clause-wait g c = refl
