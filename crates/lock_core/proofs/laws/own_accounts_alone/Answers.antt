use Rattle.std.proofs.Common.{ap}
use Rattle.lock_core.specs.Alone.{with_note}
use Rattle.lock_core.proofs.Running.{outcome_from-agrees, planned_from-agrees}
use Rattle.lock_core.proofs.laws.own_accounts_alone.Goals as goal

pub returns-clause-outcome : goal.returns-clause-outcome
returns-clause-outcome c = λ job balance other agree. outcome_from-agrees balance other 0 job.legs agree

pub returns-clause-records : goal.returns-clause-records
returns-clause-records c = λ txn job last_commit balance other agree.
    ap (with_note txn job.note) (planned_from-agrees txn last_commit balance other 0 job.legs agree)
