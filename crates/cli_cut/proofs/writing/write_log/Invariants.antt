use Rattle.std.proofs.Common.{length}
use Rattle.cli_cut.proofs.ReadyLemmas.{IsReady}
use Rattle.cli_cut.proofs.writing.write_log.Given as goal

abbrev pub invariant-records : goal.invariant-records
invariant-records g l = IsReady g.D.LogDisk l.fn.disk l.head l.units l.disk l.tail l.batch.units l.batch.room l.rest

abbrev pub decreases-records : goal.decreases-records
decreases-records g l = length l.rest
