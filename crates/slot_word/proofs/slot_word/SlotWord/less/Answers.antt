use Rattle.std.proofs.Common.{refl, sym}
use Rattle.slot_word.proofs.SlotWordLemmas.{subtracted-packed}
use Rattle.slot_word.proofs.slot_word.SlotWord.less.Goals as goal

pub returns-clause-phase : goal.returns-clause-phase
returns-clause-phase c = refl

pub returns-clause-total : goal.returns-clause-total
returns-clause-total c = refl

pub returns-clause-release : goal.returns-clause-release
returns-clause-release c = let slot = c.args.self in sym (subtracted-packed slot.phase slot.total slot.remaining c.args.n slot.total_fits slot.remaining_fits c.requires)
