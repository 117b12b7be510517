use Rattle.std.proofs.Common.{rules}
use Rattle.segment_file.proofs.settling.ends_before_gate.Goals as goal

pub returns-in_default : goal.returns-in_default
returns-in_default c = search rules steps 300000
