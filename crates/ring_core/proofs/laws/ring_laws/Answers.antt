use Rattle.ring_core.specs.Machine.{start_state}
use Rattle.ring_core.proofs.Deciding.{run-exists, run-unique}
use Rattle.ring_core.proofs.Keeping.{start-sound, holds_unmarked-at_exposed}
use Rattle.ring_core.proofs.Runs.{run-sound}
use Rattle.ring_core.proofs.laws.ring_laws.Goals as goal

pub returns-clause-reaches : goal.returns-clause-reaches
returns-clause-reaches c = λ start ring events. run-exists (start_state start ring) events

pub returns-clause-one_state : goal.returns-clause-one_state
returns-clause-one_state c = λ old s t events. run-unique old events s t

pub returns-clause-sound : goal.returns-clause-sound
returns-clause-sound c = λ start ring events s within. run-sound (start_state start ring) events s (start-sound start ring within)

pub returns-clause-last_look : goal.returns-clause-last_look
returns-clause-last_look c = λ s sound actor at. holds_unmarked-at_exposed s actor at sound
