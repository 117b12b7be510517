use Rattle.std.proofs.Common.{refl}
use Rattle.txn_script.proofs.generator.leg_of.Goals as goal

pub returns : goal.returns
returns c = refl
