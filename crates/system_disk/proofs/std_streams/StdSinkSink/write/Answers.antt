use Rattle.std.proofs.Common.{rules}
use Rattle.system_disk.proofs.std_streams.StdSinkSink.write.Goals as goal

pub returns-in-Ok-clause-some : goal.returns-in-Ok-clause-some
returns-in-Ok-clause-some g c = search rules steps 450000

pub returns-in-Ok-clause-cause : goal.returns-in-Ok-clause-cause
returns-in-Ok-clause-cause g c = search rules steps 450000
