use Rattle.std.proofs.Common.{arith}
use Rattle.std.proofs.lemmas.Grind.{common_steps}
use Rattle.lock_core.proofs.plain.kinds.admit_update.Goals as goal

pub returns-then-not-is_paired : goal.returns-then-not-is_paired
returns-then-not-is_paired c = grind (arith, common_steps) steps 1000000

pub returns-then-not-is_current : goal.returns-then-not-is_current
returns-then-not-is_current c = grind (arith, common_steps) steps 3000000

pub returns : goal.returns
returns c = grind (arith, common_steps) steps 3000000
