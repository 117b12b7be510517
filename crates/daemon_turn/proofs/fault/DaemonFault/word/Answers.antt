use Rattle.std.proofs.Common.{ap, sym}
use Rattle.daemon_turn.specs.StopWord.{stop_word}
use Rattle.daemon_turn.proofs.fault.DaemonFault.word.Goals as goal

pub returns-in-WriteFault : goal.returns-in-WriteFault
returns-in-WriteFault c = ap stop_word (sym c.in-WriteFault.is)
