use Rattle.std.proofs.Common.{rules}
use Rattle.ring_buffer.proofs.placing.try_place.Goals as goal

pub returns-in_err-to-clause-refused : goal.returns-in_err-to-clause-refused
returns-in_err-to-clause-refused c = search rules steps 1200000
