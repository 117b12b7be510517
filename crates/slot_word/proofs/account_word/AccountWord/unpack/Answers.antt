use Rattle.std.proofs.Common.{◌∙◌, rules}
use Rattle.std.proofs.lemmas.Nat.{and_mask}
use Rattle.slot_word.proofs.account_word.AccountWord.unpack.Goals as goal

pub returns-then-word-eq1-clause-held : goal.returns-then-word-eq1-clause-held
returns-then-word-eq1-clause-held c = search rules steps 300000

pub returns-else-word-eq1-clause-held : goal.returns-else-word-eq1-clause-held
returns-else-word-eq1-clause-held c = search rules steps 300000

pub returns-then-word-eq1-clause-mark : goal.returns-then-word-eq1-clause-mark
returns-then-word-eq1-clause-mark c = c.taken.ensures.mark ∙ and_mask c.args.word 32

pub returns-else-word-eq1-clause-mark : goal.returns-else-word-eq1-clause-mark
returns-else-word-eq1-clause-mark c = c.free.ensures.mark ∙ and_mask c.args.word 32
