use Rattle.std.proofs.Common.{rules}
use Rattle.txn_parts.proofs.waiting.may_come.Goals as goal

pub returns-in-LogEnd : goal.returns-in-LogEnd
returns-in-LogEnd c = search rules steps 300000

pub returns-in-RingFull : goal.returns-in-RingFull
returns-in-RingFull c = search rules steps 300000
