use Rattle.std.proofs.Common.{refl}
use Rattle.cli_laws.proofs.laws.known_mixes.Goals as goal

pub returns-clause-none : goal.returns-clause-none
returns-clause-none c = refl

pub returns-clause-three : goal.returns-clause-three
returns-clause-three c = refl
