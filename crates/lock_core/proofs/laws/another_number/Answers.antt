use Rattle.lock_core.proofs.GoingOn.{lawful-other_opening_txn, lawful_as_opening-lawful_after}
use Rattle.lock_core.proofs.laws.another_number.Goals as goal

pub returns-clause-any : goal.returns-clause-any
returns-clause-any c = lawful-other_opening_txn

pub returns-clause-joins : goal.returns-clause-joins
returns-clause-joins c = lawful_as_opening-lawful_after
