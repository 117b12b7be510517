use Rattle.std.proofs.Common.{rules}
use Rattle.memory_disk.proofs.memory_sink.MemorySinkSink.write.Goals as goal

pub returns-then-is_full-clause-fails : goal.returns-then-is_full-clause-fails
returns-then-is_full-clause-fails c = search rules steps 1250000
