use Rattle.std.proofs.Common.{arith}
use Rattle.std.proofs.lemmas.Grind.{common_steps}
use Rattle.txn_script.proofs.pay.after_pay.Goals as goal

pub returns-in-112-clause-some : goal.returns-in-112-clause-some
returns-in-112-clause-some c = grind (arith, common_steps) steps 300000
