use Rattle.std.proofs.Common.{refl}
use Rattle.txn_script.proofs.generator.following.Goals as goal

pub returns : goal.returns
returns c = refl
