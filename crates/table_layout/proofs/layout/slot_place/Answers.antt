use Rattle.std.proofs.Common.{refl}
use Rattle.table_layout.proofs.layout.slot_place.Goals as goal

pub returns : goal.returns
returns c = refl
