use Rattle.std.proofs.Common.{◌∙◌, ap, subst, sym}
use Rattle.slot_word.specs.SlotWord.{number_of, IsSlotWord}
use Rattle.slot_word.proofs.SlotWordLemmas.{word_of-shifted_sum, word_of-is_slot_word}
use Rattle.slot_word.proofs.slot_word.SlotWord.pack.Goals as goal

pub returns-clause-word : goal.returns-clause-word
returns-clause-word c = word_of-shifted_sum c.args.self c.number-phase_part.result c.total.result c.remaining.result
    (c.number-phase_part.ensures ∙ ap number_of c.phase.ensures.phase) c.total.ensures.total c.remaining.ensures.remaining

pub returns-clause-slot : goal.returns-clause-slot
returns-clause-slot c = subst IsSlotWord (sym (returns-clause-word c)) (word_of-is_slot_word c.args.self)
