use Rattle.std.proofs.Common.{ap, rules}
use Rattle.memory_disk.specs.MemoryDisks.{DiskState}
use Rattle.memory_disk.proofs.memory_disk.MemoryDiskLogDisk.attach.Goals as goal

pub returns-then-name-gt-LONGEST_NAME-clause-attached : goal.returns-then-name-gt-LONGEST_NAME-clause-attached
returns-then-name-gt-LONGEST_NAME-clause-attached c = ap (λ (d : DiskState). d.attached) c.count_fault.ensures.state

pub returns-clause-attached : goal.returns-clause-attached
returns-clause-attached c = search rules steps 200000
