use Rattle.std.proofs.Common.{rules}
use Rattle.ring_core.proofs.ring_log.RingLog.has_room.Goals as goal

pub returns-then-end-from : goal.returns-then-end-from
returns-then-end-from c = search rules steps 600000
