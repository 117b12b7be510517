use Rattle.std.proofs.Common.{rules}
use Rattle.memory_disk.proofs.contents.copy_from.Goals as goal

pub returns-clause-count : goal.returns-clause-count
returns-clause-count c = search rules steps 450000
