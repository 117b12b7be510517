use Rattle.std.proofs.Common.{refl}
use Rattle.test_rig.proofs.tables.table_with_slots.Goals as goal

pub make-requires-2-clause-power : goal.make-requires-2-clause-power
make-requires-2-clause-power c = (10, refl)
