use Rattle.std.proofs.Common.{rules}
use Rattle.segment_file.proofs.scan_result.Tail.after.Goals as goal

pub returns-clause-at : goal.returns-clause-at
returns-clause-at c = search rules steps 1000000
