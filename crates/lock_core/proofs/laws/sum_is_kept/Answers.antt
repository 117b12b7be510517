use Rattle.lock_core.proofs.Conserving.{lawful-balances_sum_as_base}
use Rattle.lock_core.proofs.laws.sum_is_kept.Goals as goal

pub returns : goal.returns
returns c = lawful-balances_sum_as_base
