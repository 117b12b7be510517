use Rattle.slot_core.proofs.RingParts.{no_join-same_log}
use Rattle.slot_core.proofs.laws.ring_part_law.Goals as goal

pub returns : goal.returns
returns c = no_join-same_log
