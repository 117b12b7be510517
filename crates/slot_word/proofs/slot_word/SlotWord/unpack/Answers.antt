use Rattle.std.proofs.Common.{◌/◌, ◌^◌, ◌∙◌}
use Rattle.std.proofs.lemmas.Nat.{and_mask}
use Rattle.slot_word.proofs.slot_word.SlotWord.unpack.Goals as goal

pub returns-in-0-clause-total : goal.returns-in-0-clause-total
returns-in-0-clause-total c = c.fresh.ensures.total ∙ and_mask (c.args.word / 2 ^ 31) 31

pub returns-in-2-clause-total : goal.returns-in-2-clause-total
returns-in-2-clause-total c = c.published.ensures.total ∙ and_mask (c.args.word / 2 ^ 31) 31

pub returns-in_default-clause-total : goal.returns-in_default-clause-total
returns-in_default-clause-total c = c.refused.ensures.total ∙ and_mask (c.args.word / 2 ^ 31) 31

pub returns-in-2-clause-remaining : goal.returns-in-2-clause-remaining
returns-in-2-clause-remaining c = c.published.ensures.remaining ∙ and_mask c.args.word 31

pub returns-in_default-clause-remaining : goal.returns-in_default-clause-remaining
returns-in_default-clause-remaining c = c.refused.ensures.remaining ∙ and_mask c.args.word 31
