use Rattle.std.proofs.Common.{rules, refl}
use Rattle.daemon_turn.proofs.stopping.tell_fault.Goals as goal

pub returns-clause-stops : goal.returns-clause-stops
returns-clause-stops c = search rules steps 400000

pub returns-clause-fault : goal.returns-clause-fault
returns-clause-fault c = refl
