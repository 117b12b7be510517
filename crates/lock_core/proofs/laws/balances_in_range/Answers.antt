use Rattle.lock_core.proofs.Appending.{lawful-met_with_opening_state}
use Rattle.lock_core.proofs.Ranging.{met-in_range, lawful-in_range}
use Rattle.lock_core.proofs.laws.balances_in_range.Goals as goal

pub returns-clause-range : goal.returns-clause-range
returns-clause-range c = lawful-in_range

pub returns-clause-after : goal.returns-clause-after
returns-clause-after c = λ opening h first some lawful. met-in_range opening.state h first (lawful-met_with_opening_state opening h some lawful)
