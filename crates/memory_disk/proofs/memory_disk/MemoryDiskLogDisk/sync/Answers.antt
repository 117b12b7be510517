use Rattle.std.proofs.Common.{rules, ap}
use Rattle.memory_disk.specs.MemoryDisks.{DiskState}
use Rattle.memory_disk.proofs.Calls.{images-sync}
use Rattle.memory_disk.proofs.memory_disk.MemoryDiskLogDisk.sync.Goals as goal

pub returns-in-Ok-clause-images : goal.returns-in-Ok-clause-images
returns-in-Ok-clause-images c = images-sync c.args.self.now c.keep_sync.new.self (search rules) (search rules)

pub returns-in-Err-clause-settled : goal.returns-in-Err-clause-settled
returns-in-Err-clause-settled c = tt

pub returns-in-Err-clause-attached : goal.returns-in-Err-clause-attached
returns-in-Err-clause-attached c = ap (λ (d : DiskState). d.attached) c.in-Err.ensures.state

pub returns-in-Err-clause-count : goal.returns-in-Err-clause-count
returns-in-Err-clause-count c = ap (λ (d : DiskState). d.written_count) c.in-Err.ensures.state

pub returns-in-Err-clause-counts : goal.returns-in-Err-clause-counts
returns-in-Err-clause-counts c = record {
  fails = c.in-Err.ensures.fails;
  cause = c.in-Err.ensures.cause;
  time = search rules;
  failing = ap (λ (d : DiskState). d.failing) c.in-Err.ensures.state;
  calls = ap (λ (d : DiskState). d.calls) c.in-Err.ensures.state;
}

pub returns-in-Err-clause-kept : goal.returns-in-Err-clause-kept
returns-in-Err-clause-kept c = tt

pub returns-in-Err-clause-room : goal.returns-in-Err-clause-room
returns-in-Err-clause-room c = tt

pub returns-in-Err-clause-failed : goal.returns-in-Err-clause-failed
returns-in-Err-clause-failed c = λ failed.
    (ap (λ (d : DiskState). d.history) c.in-Err.ensures.state, ap (λ (d : DiskState). d.room) c.in-Err.ensures.state)
