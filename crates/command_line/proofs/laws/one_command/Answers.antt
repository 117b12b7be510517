use Rattle.command_line.proofs.Asking.{IsCommandLine-same, AreKnown-taken_or_numbers}
use Rattle.command_line.proofs.laws.one_command.Goals as goal

pub returns : goal.returns
returns c = record { one = IsCommandLine-same; some = AreKnown-taken_or_numbers }
