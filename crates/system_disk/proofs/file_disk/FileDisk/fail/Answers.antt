use Rattle.std.proofs.Common.{rules}
use Rattle.system_disk.proofs.file_disk.FileDisk.fail.Goals as goal

pub returns-clause-rose : goal.returns-clause-rose
returns-clause-rose g c = search rules steps 450000
