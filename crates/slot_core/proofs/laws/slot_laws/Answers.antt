use Rattle.slot_core.specs.Machine.{start_state}
use Rattle.slot_core.proofs.Resting.{start-sound, rest-exposed, rest-vacant}
use Rattle.slot_core.proofs.Runs.{run-sound, run-exists, run-unique}
use Rattle.slot_core.proofs.laws.slot_laws.Goals as goal

pub returns-clause-reaches : goal.returns-clause-reaches
returns-clause-reaches c = λ start ring slots events. run-exists (start_state start ring slots) events

pub returns-clause-one_state : goal.returns-clause-one_state
returns-clause-one_state c = λ old s t events. run-unique old events s t

pub returns-clause-sound : goal.returns-clause-sound
returns-clause-sound c = λ start ring slots events s within. run-sound (start_state start ring slots) events s (start-sound start ring slots within)

pub returns-clause-exposed_at_rest : goal.returns-clause-exposed_at_rest
returns-clause-exposed_at_rest c = rest-exposed

pub returns-clause-empty_at_rest : goal.returns-clause-empty_at_rest
returns-clause-empty_at_rest c = rest-vacant
