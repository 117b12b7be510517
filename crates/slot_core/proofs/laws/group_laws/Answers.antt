use Rattle.std.proofs.Common.{sym}
use Rattle.slot_core.proofs.Named.{sound-leads_from_zero, sound-pieces_apart, sound-pieces_in_range, sound-sums_remaining}
use Rattle.slot_core.proofs.laws.group_laws.Goals as goal

pub returns-clause-leader : goal.returns-clause-leader
returns-clause-leader c = sound-leads_from_zero

pub returns-clause-next_step : goal.returns-clause-next_step
returns-clause-next_step c = λ s sound actor slot. sym (sound.links actor slot).leads

pub returns-clause-piece : goal.returns-clause-piece
returns-clause-piece c = λ s sound actor slot. (sound.links actor slot).joins

pub returns-clause-apart : goal.returns-clause-apart
returns-clause-apart c = sound-pieces_apart

pub returns-clause-in_range : goal.returns-clause-in_range
returns-clause-in_range c = sound-pieces_in_range

pub returns-clause-remains : goal.returns-clause-remains
returns-clause-remains c = sound-sums_remaining
