use Rattle.std.proofs.Common.{refl}
use Rattle.cli_workers.proofs.shared.Run.waits.Goals as goal

pub returns : goal.returns
returns g c = refl
