use Rattle.lock_core.proofs.Splitting.{lawful-split, lawful-split_behind_genesis}
use Rattle.lock_core.proofs.laws.lawful_split.Goals as goal

pub returns-clause-any : goal.returns-clause-any
returns-clause-any c = lawful-split

pub returns-clause-upgraded : goal.returns-clause-upgraded
returns-clause-upgraded c = lawful-split_behind_genesis
