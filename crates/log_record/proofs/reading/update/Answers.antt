use Rattle.std.proofs.Common.{rules, arith}
use Rattle.std.proofs.lemmas.Grind.{common_steps}
use Rattle.log_record.proofs.reading.update.Goals as goal

pub returns-then-header-eq0 : goal.returns-then-header-eq0
returns-then-header-eq0 c = record { found = tt; bad = search rules steps 800000 }

pub returns : goal.returns
returns c = record { found = grind (arith, common_steps) steps 2000000; bad = tt }
