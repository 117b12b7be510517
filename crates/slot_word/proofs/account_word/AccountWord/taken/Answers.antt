use Rattle.std.proofs.Common.{refl}
use Rattle.slot_word.proofs.account_word.AccountWord.taken.Goals as goal

pub returns-clause-held : goal.returns-clause-held
returns-clause-held c = refl
