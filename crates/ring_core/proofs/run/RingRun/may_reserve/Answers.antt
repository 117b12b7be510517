use Rattle.std.proofs.Common.{rules}
use Rattle.ring_core.proofs.run.RingRun.may_reserve.Goals as goal

pub returns-then-is_idle : goal.returns-then-is_idle
returns-then-is_idle c = search rules steps 500000
