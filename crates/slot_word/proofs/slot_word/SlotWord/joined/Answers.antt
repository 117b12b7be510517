use Rattle.slot_word.proofs.slot_word.SlotWord.joined.Goals as goal

pub fresh-requires : goal.fresh-requires
fresh-requires c = c.requires.fits

pub returns-clause-total : goal.returns-clause-total
returns-clause-total c = c.fresh.ensures.total
