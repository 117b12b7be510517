use Rattle.lock_core.proofs.Fronts.{lawful-front, lawful-records_front}
use Rattle.lock_core.proofs.laws.lawful_front.Goals as goal

pub returns-clause-list : goal.returns-clause-list
returns-clause-list c = lawful-front

pub returns-clause-records : goal.returns-clause-records
returns-clause-records c = lawful-records_front
