use Rattle.std.proofs.Common.{arith}
use Rattle.std.proofs.lemmas.Grind.{common_steps}
use Rattle.log_record.proofs.reading.genesis.Goals as goal

pub returns : goal.returns
returns c = record { found = grind (arith, common_steps) steps 900000; bad = tt }
