use Rattle.slot_rig.proofs.Gathers.{done-may_leave}
use Rattle.slot_rig.proofs.pair.take_in.Goals as goal

pub leave-requires-clause-may : goal.leave-requires-clause-may
leave-requires-clause-may c = done-may_leave c.args.table.now 0 c.args.one c.requires.one
