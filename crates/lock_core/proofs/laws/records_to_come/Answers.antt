use Rattle.lock_core.proofs.NextRecords.{outcome_records-front_unended, planned_next-outcome_next, size-without_prev}
use Rattle.lock_core.proofs.laws.records_to_come.Goals as goal

pub returns-clause-unended : goal.returns-clause-unended
returns-clause-unended c = outcome_records-front_unended

pub returns-clause-planned : goal.returns-clause-planned
returns-clause-planned c = planned_next-outcome_next

pub returns-clause-size : goal.returns-clause-size
returns-clause-size c = size-without_prev
