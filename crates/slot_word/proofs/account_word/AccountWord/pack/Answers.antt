use Rattle.std.proofs.Common.{rules}
use Rattle.slot_word.proofs.account_word.AccountWord.pack.Goals as goal

pub returns : goal.returns
returns c = search rules steps 300000
