use Rattle.lock_core.proofs.SerialTasks.{partly_serial-more}
use Rattle.lock_core.proofs.laws.partly_serial_for_more.Goals as goal

pub returns : goal.returns
returns c = partly_serial-more
