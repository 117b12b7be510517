use Rattle.std.proofs.Common.{refl}
use Rattle.slot_word.proofs.slot_word.SlotWord.refused.Goals as goal

pub returns-clause-phase : goal.returns-clause-phase
returns-clause-phase c = refl
