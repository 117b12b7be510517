use Rattle.std.proofs.Common.{◌≡◌, ◌-◌, ◌↔◌, length, take}
use Rattle.log_disk.specs.Disk.{Keeps, Leaves}
use Rattle.segment_file.proofs.OpeningLemmas.{HasSpent}
use Rattle.segment_file.proofs.opening.read_up_to.Given as goal

abbrev pub invariant-reading : goal.invariant-reading
invariant-reading g l = record {
  honest : g.D.LogDisk.honest l.fn.disk ↔ g.D.LogDisk.honest l.disk;
  attached : g.D.LogDisk.attached l.disk ≡ g.D.LogDisk.attached l.fn.disk;
  keeps : Keeps g.D.LogDisk.honest g.D.LogDisk.reads g.D.LogDisk.images g.D.LogDisk.written_count l.fn.disk l.disk;
  moments : Leaves g.D.LogDisk.moment g.D.LogDisk.images_since (g.D.LogDisk.images l.fn.disk) l.fn.disk l.disk;
  faults : g.D.LogDisk.faults l.disk ≡ g.D.LogDisk.faults l.fn.disk;
  spent : g.D.LogDisk.honest l.fn.disk → l.len ≡ length (g.D.LogDisk.reads l.fn.disk)
      → HasSpent l.len (length l.bytes.items) (g.D.LogDisk.calls l.fn.disk) (g.D.LogDisk.calls l.disk);
  bytes : g.D.LogDisk.honest l.fn.disk → l.bytes.items ≡ take (length l.bytes.items) (g.D.LogDisk.reads l.fn.disk);
}

abbrev pub decreases-reading : goal.decreases-reading
decreases-reading g l = l.len - length l.bytes.items
