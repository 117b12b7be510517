use Rattle.consol_array.proofs.Places.{HasClosed-since}
use Rattle.consol_array.proofs.leading.place_group.Goals as goal

pub try_place_group-requires-clause-closed : goal.try_place_group-requires-clause-closed
try_place_group-requires-clause-closed c =
    HasClosed-since c.args.table.now c.args.slot c.args.total c.args.seat.now c.places.seat c.places.invariant.0 c.places.invariant.1 c.requires.closed
