use Rattle.std.proofs.Common.{arith}
use Rattle.std.proofs.lemmas.Grind.{common_steps}
use Rattle.segment_file.proofs.gate.after_gate.Goals as goal

pub returns-in-79-clause-some : goal.returns-in-79-clause-some
returns-in-79-clause-some c = grind (arith, common_steps) steps 2000000
