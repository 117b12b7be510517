use Rattle.std.proofs.Common.{ap, rules, length}
use Rattle.memory_disk.specs.MemoryDisks.{DiskState}
use Rattle.memory_disk.proofs.Calls.{tears-write}
use Rattle.memory_disk.proofs.memory_disk.MemoryDisk.keep_half.Goals as goal

pub returns-then-bytes-self-clause-half : goal.returns-then-bytes-self-clause-half
returns-then-bytes-self-clause-half c = search rules steps 1200000

pub returns-then-bytes-self-clause-half_room : goal.returns-then-bytes-self-clause-half_room
returns-then-bytes-self-clause-half_room c = search rules steps 1200000

pub returns-then-bytes-self-clause-tears : goal.returns-then-bytes-self-clause-tears
returns-then-bytes-self-clause-tears c =
    let start = ap (λ (d : DiskState). d.start) c.keep_write.ensures in
    let history = ap (λ (d : DiskState). d.history) c.keep_write.ensures in
    tears-write c.args.self.now c.keep_write.new.self start c.args.at (length c.args.bytes.now) c.split_at.result.0.now history c.requires
    (search rules steps 600000)
