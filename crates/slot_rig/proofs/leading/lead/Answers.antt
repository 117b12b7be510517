use Rattle.std.proofs.Common.{rules}
use Rattle.slot_rig.proofs.leading.lead.Goals as goal

pub place-requires : goal.place-requires
place-requires c = search rules steps 60000

pub store-requires : goal.store-requires
store-requires c = record { placed = c.in_ok-range.ensures.placed }

pub tell-requires : goal.tell-requires
tell-requires c = search rules steps 150000
