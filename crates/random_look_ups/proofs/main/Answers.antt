use Rattle.lock_core.specs.AccountRows.{opening_of}
use Rattle.random_look_ups.proofs.main.Goals as goal

pub look_ups-found-requires : goal.look_ups-found-requires
look_ups-found-requires c = record { viewed = (opening_of c.in-Ok-taken.listed.opening, _, c.in-Ok-taken.ensures.found.taken) }
