use Rattle.std.proofs.Common.{arith}
use Rattle.std.proofs.lemmas.Grind.{common_steps}
use Rattle.txn_script.proofs.script.put.Goals as goal

pub returns-clause-kept : goal.returns-clause-kept
returns-clause-kept T c = grind (arith, common_steps) steps 300000
