use Rattle.lock_core.proofs.SerialFronts.{partly_serial-front, serial-partly, partly_serial-all_ended_serial}
use Rattle.lock_core.proofs.laws.partly_serial_front.Goals as goal

pub returns-clause-front : goal.returns-clause-front
returns-clause-front c = partly_serial-front

pub returns-clause-partly : goal.returns-clause-partly
returns-clause-partly c = serial-partly

pub returns-clause-whole : goal.returns-clause-whole
returns-clause-whole c = partly_serial-all_ended_serial
