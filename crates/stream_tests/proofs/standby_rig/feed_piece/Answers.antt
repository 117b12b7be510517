use Rattle.std.proofs.Common.{◌++◌}
use Rattle.stream_tests.proofs.standby_rig.feed_piece.Goals as goal

pub returns-in-Ok : goal.returns-in-Ok
returns-in-Ok g c =
    let r = c.requires in
    (r.0, r.1 ++ c.args.piece.now, c.in-Ok.ensures.follows r.0 r.1 r.2)
