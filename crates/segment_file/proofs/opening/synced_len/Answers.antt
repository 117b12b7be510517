use Rattle.std.proofs.Common.{rules}
use Rattle.segment_file.proofs.SyncedWrites.{synced_told-settles, synced_told-uses}
use Rattle.segment_file.proofs.opening.synced_len.Goals as goal

pub returns-clause-settles : goal.returns-clause-settles
returns-clause-settles g c = synced_told-settles g.D.LogDisk _ _ _ c.len.result c.len.ensures (search rules)

pub returns-clause-uses : goal.returns-clause-uses
returns-clause-uses g c = synced_told-uses g.D.LogDisk _ _ _ c.len.result c.len.ensures (search rules)
