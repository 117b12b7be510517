use Rattle.std.proofs.Common.{[]}
use Rattle.stream_tests.proofs.standby_rig.follow.Goals as goal

pub feed_all-requires : goal.feed_all-requires
feed_all-requires g c =
    let list = c.in-Some.ensures in
    (record { list = list.0; at = c.in-Some.tail.at; disk = c.open.new.disk }, [], c.in-Ok.ensures.follows list.0 list.1)
