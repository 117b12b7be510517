use Rattle.std.proofs.Common.{◌∙◌}
use Rattle.lock_core.proofs.Running.{planned_records-without_prev, planned_records-outcome}
use Rattle.lock_core.proofs.laws.planned_records_are.Goals as goal

pub returns : goal.returns
returns c = λ txn job last_commit balance. planned_records-without_prev txn job last_commit balance ∙ planned_records-outcome txn job balance
