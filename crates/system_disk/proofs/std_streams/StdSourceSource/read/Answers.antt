use Rattle.std.proofs.Common.{rules}
use Rattle.system_disk.proofs.std_streams.StdSourceSource.read.Goals as goal

pub returns-else-count-gt0-clause-allowance : goal.returns-else-count-gt0-clause-allowance
returns-else-count-gt0-clause-allowance g c = search rules steps 450000
