use Rattle.cli_laws.proofs.InTurn.{one_worker-in_order, unended-at_most_workers}
use Rattle.cli_laws.proofs.laws.transfers_come_in_turn.Goals as goal

pub returns-clause-unended : goal.returns-clause-unended
returns-clause-unended c = λ opened list jobs sharing goes_on workers shared.
    unended-at_most_workers opened list jobs sharing workers goes_on shared

pub returns-clause-one_worker : goal.returns-clause-one_worker
returns-clause-one_worker c = one_worker-in_order
