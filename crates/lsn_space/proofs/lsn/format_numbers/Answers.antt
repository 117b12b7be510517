use Rattle.std.proofs.Common.{refl}
use Rattle.lsn_space.proofs.lsn.format_numbers.Goals as goal

pub returns-clause-last : goal.returns-clause-last
returns-clause-last c = refl

pub returns-clause-least_ring : goal.returns-clause-least_ring
returns-clause-least_ring c = refl
