-- How a fault is told to the workers.
use Rattle.std.specs.Prelude.{ℕ}
use Rattle.daemon_turn.specs.declared.fault.DaemonFault.{DaemonFault}
use Rattle.daemon_turn.specs.declared.fault.DaemonFault.TheVariants.{DiskFault, WriteFault}

-- the stop word
abbrev pub stop_word : DaemonFault → ℕ
stop_word DiskFault = 1
stop_word WriteFault = 2
