use Rattle.std.proofs.Common.{ap, sym}
use Rattle.slot_word.specs.SlotWord.{number_of}
use Rattle.slot_word.proofs.phase.Phase.number.Goals as goal

pub returns-in-Published : goal.returns-in-Published
returns-in-Published c = sym (ap number_of c.in-Published.is)

pub returns-in-Refused : goal.returns-in-Refused
returns-in-Refused c = sym (ap number_of c.in-Refused.is)
