use Rattle.std.proofs.Common.{rules}
use Rattle.segment_file.proofs.SyncedWrites.{synced-write}
use Rattle.segment_file.proofs.gated_write.write_synced.Goals as goal

pub returns : goal.returns
returns g c = synced-write g.D.LogDisk _ _ _ c.args.at c.args.bytes.now c.in_ok-write_at.ensures (search rules)
