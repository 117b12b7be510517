use Rattle.std.proofs.Common.{refl}
use Rattle.table_layout.proofs.layout.fixed_layout.Goals as goal

pub returns : goal.returns
returns c = record { stride = refl; tail = refl; exposed = refl; durable = refl; stop = refl; crew = refl; ring = refl }
