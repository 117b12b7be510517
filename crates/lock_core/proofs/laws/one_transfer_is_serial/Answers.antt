use Rattle.lock_core.proofs.Witnessing.{transfer-lawful, transfer-serial, transfer_history-share_none, transfer-allowed, transfer-room}
use Rattle.lock_core.proofs.laws.one_transfer_is_serial.Goals as goal

pub returns-clause-lawful : goal.returns-clause-lawful
returns-clause-lawful c = transfer-lawful

pub returns-clause-serial : goal.returns-clause-serial
returns-clause-serial c = transfer-serial

pub returns-clause-apart : goal.returns-clause-apart
returns-clause-apart c = transfer_history-share_none

pub returns-clause-allowed : goal.returns-clause-allowed
returns-clause-allowed c = transfer-allowed

pub returns-clause-room : goal.returns-clause-room
returns-clause-room c = transfer-room
