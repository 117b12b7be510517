use Rattle.std.proofs.Common.{rules}
use Rattle.segment_file.proofs.first_gate.opens.Goals as goal

pub returns-in-79 : goal.returns-in-79
returns-in-79 c = search rules steps 1000000
