use Rattle.std.proofs.Common.{IsTrue}
use Rattle.standby.proofs.FollowedParts.{tells-more}
use Rattle.standby.proofs.standby.Standby.progress.Goals as goal

pub returns-else-is_ended : goal.returns-else-is_ended
returns-else-is_ended g c = λ base fed follows.
    tells-more g.D.LogDisk base fed c.args.self.now follows
    (λ whole. let is : IsTrue c.is_ended.result = (c.is_ended.ensures fed follows.came follows.read).1 whole in cc)
