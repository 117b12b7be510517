use Rattle.std.proofs.Common.{rules}
use Rattle.txn_parts.proofs.waiting.pause.Goals as goal

pub returns-clause-runs : goal.returns-clause-runs
returns-clause-runs g c = search rules steps 300000
