use Rattle.std.proofs.Common.{rules}
use Rattle.ring_buffer.proofs.placing.end_of.Goals as goal

pub returns-clause-refused : goal.returns-clause-refused
returns-clause-refused c = search rules steps 100000

pub returns-in_default-clause-refused : goal.returns-in_default-clause-refused
returns-in_default-clause-refused c = search rules steps 400000
