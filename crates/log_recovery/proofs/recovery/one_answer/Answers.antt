use Rattle.log_recovery.proofs.AnswerLemmas.{one-list, HoldsList-fault_no_memory, HoldsLawful-fault_no_memory, one-fault}
use Rattle.log_recovery.proofs.recovery.one_answer.Goals as goal

pub returns-clause-list : goal.returns-clause-list
returns-clause-list c = one-list

pub returns-clause-listed : goal.returns-clause-listed
returns-clause-listed c = HoldsList-fault_no_memory

pub returns-clause-lawful : goal.returns-clause-lawful
returns-clause-lawful c = HoldsLawful-fault_no_memory

pub returns-clause-fault : goal.returns-clause-fault
returns-clause-fault c = one-fault
