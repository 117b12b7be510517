use Rattle.std.proofs.Common.{refl}
use Rattle.standby.proofs.FollowedParts.{has-followed}
use Rattle.standby.proofs.standby.Standby.end.Goals as goal

pub returns-in-Ok-clause-ended : goal.returns-in-Ok-clause-ended
returns-in-Ok-clause-ended g c = λ base fed follows.
    has-followed g.D.LogDisk base fed c.args.self.now follows (c.in-Ok.ensures.whole fed follows.came follows.read)

pub returns-in-Err-clause-bad : goal.returns-in-Err-clause-bad
returns-in-Err-clause-bad g c = λ base fed follows. (_, refl, c.in-Err.ensures.bad fed follows.came follows.read)
