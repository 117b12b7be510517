use Rattle.std.proofs.Common.{rules}
use Rattle.txn_parts.proofs.waiting.is_seen.Goals as goal

pub returns-else-not-wait-clause-seen : goal.returns-else-not-wait-clause-seen
returns-else-not-wait-clause-seen c = search rules steps 300000

pub returns-else-not-wait-clause-waits : goal.returns-else-not-wait-clause-waits
returns-else-not-wait-clause-waits c = search rules steps 300000
