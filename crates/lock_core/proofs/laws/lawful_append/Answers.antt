use Rattle.lock_core.proofs.Appending.{lawful-append_opening_after, lawful-append}
use Rattle.lock_core.proofs.laws.lawful_append.Goals as goal

pub returns-clause-on : goal.returns-clause-on
returns-clause-on c = lawful-append_opening_after

pub returns-clause-any : goal.returns-clause-any
returns-clause-any c = lawful-append
