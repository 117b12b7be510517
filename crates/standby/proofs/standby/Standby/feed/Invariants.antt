use Rattle.std.proofs.Common.{◌≡◌, length}
use Rattle.standby.proofs.FollowedParts.{HasPassed}
use Rattle.standby.proofs.standby.Standby.feed.Given as goal

abbrev pub invariant-parts : goal.invariant-parts
invariant-parts g l = record {
  passed : HasPassed g.D.LogDisk l.initial.self l.self l.bytes l.rest;
  same : l.self.disk.ghost_name ≡ l.initial.self.disk.ghost_name;
}

abbrev pub decreases-parts : goal.decreases-parts
decreases-parts g l = length l.rest
