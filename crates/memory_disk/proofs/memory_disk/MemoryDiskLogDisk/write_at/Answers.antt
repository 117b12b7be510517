use Rattle.std.proofs.Common.{◌∙◌, ap, rules, length}
use Rattle.memory_disk.specs.MemoryDisks.{DiskState}
use Rattle.memory_disk.proofs.Calls.{tears-write}
use Rattle.memory_disk.proofs.memory_disk.MemoryDiskLogDisk.write_at.Goals as goal

pub returns-in-Ok-clause-tears : goal.returns-in-Ok-clause-tears
returns-in-Ok-clause-tears c =
    let bytes = c.args.bytes.now in
    tears-write c.args.self.now c.keep_write.new.self (search rules steps 600000) c.args.at (length bytes) bytes (search rules steps 600000) c.requires
    (search rules steps 600000)

pub returns-in-Err-clause-written : goal.returns-in-Err-clause-written
returns-in-Err-clause-written c = tt

pub returns-in-Err-clause-tears : goal.returns-in-Err-clause-tears
returns-in-Err-clause-tears c =
    let tears = (rw c.in-Err.ensures.state at c.keep_half.ensures).tears in
    record { torn = tears.torn; images = tears.images }

pub returns-in-Err-clause-attached : goal.returns-in-Err-clause-attached
returns-in-Err-clause-attached c =
    ap (λ (d : DiskState). d.attached) c.keep_half.ensures.same ∙ ap (λ (d : DiskState). d.attached) c.in-Err.ensures.state

pub returns-in-Err-clause-count : goal.returns-in-Err-clause-count
returns-in-Err-clause-count c = ap (λ (d : DiskState). d.written_count) (rw c.in-Err.ensures.state at c.keep_half.ensures).same

pub returns-in-Err-clause-counts : goal.returns-in-Err-clause-counts
returns-in-Err-clause-counts c =
    let half = (rw c.in-Err.ensures.state at c.keep_half.ensures).time in
    record {
      fails = c.in-Err.ensures.fails;
      cause = rw (ap (λ (d : DiskState). d.faults) c.keep_half.ensures.same) c.in-Err.ensures.cause;
      time = record { later = half.later; stay = half.stay; no_others = half.no_others; still = half.still };
      failing = ap (λ (d : DiskState). d.failing) c.keep_half.ensures.same ∙ ap (λ (d : DiskState). d.failing) c.in-Err.ensures.state;
      calls = ap (λ (d : DiskState). d.calls) c.keep_half.ensures.same ∙ ap (λ (d : DiskState). d.calls) c.in-Err.ensures.state;
    }

pub returns-in-Err-clause-start : goal.returns-in-Err-clause-start
returns-in-Err-clause-start c =
    ap (λ (d : DiskState). d.start) c.keep_half.ensures.same ∙ ap (λ (d : DiskState). d.start) c.in-Err.ensures.state

pub returns-in-Err-clause-kept : goal.returns-in-Err-clause-kept
returns-in-Err-clause-kept c = tt

pub returns-in-Err-clause-room : goal.returns-in-Err-clause-room
returns-in-Err-clause-room c = tt

pub returns-in-Err-clause-half : goal.returns-in-Err-clause-half
returns-in-Err-clause-half c = λ failed. (rw c.in-Err.ensures.state at c.keep_half.ensures).half

pub returns-in-Err-clause-half_room : goal.returns-in-Err-clause-half_room
returns-in-Err-clause-half_room c = λ failed. (rw c.in-Err.ensures.state at c.keep_half.ensures).half_room

pub returns-in-Err-clause-no_room : goal.returns-in-Err-clause-no_room
returns-in-Err-clause-no_room c = (rw c.in-Err.ensures.state at c.keep_half.ensures).no_room
