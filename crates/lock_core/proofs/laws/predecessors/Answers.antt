use Rattle.lock_core.proofs.LastCommits.{base_with-last_commit}
use Rattle.lock_core.proofs.Preceding.{lawful-has_predecessors}
use Rattle.lock_core.proofs.laws.predecessors.Goals as goal

pub returns-clause-list : goal.returns-clause-list
returns-clause-list c = lawful-has_predecessors

pub returns-clause-none : goal.returns-clause-none
returns-clause-none c = base_with-last_commit
