use Rattle.std.proofs.Common.{refl}
use Rattle.command_line.proofs.matching.refusal_of.Goals as goal

pub returns-in-OutOfMemory : goal.returns-in-OutOfMemory
returns-in-OutOfMemory c = λ is. refl
