use Rattle.lock_core.proofs.SoundLemmas.{base_state_of-past_accounts_same}
use Rattle.lock_core.proofs.laws.no_more_accounts.Goals as goal

pub returns : goal.returns
returns c = base_state_of-past_accounts_same
