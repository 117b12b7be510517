use Rattle.std.proofs.Common.{rules}
use Rattle.ring_buffer.proofs.placing.place_alone.Goals as goal

pub returns-clause-refused : goal.returns-clause-refused
returns-clause-refused c = search rules steps 700000
