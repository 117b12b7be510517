use Rattle.std.proofs.Common.{◌≡◌, [], List, ℕ}
use Rattle.standby.specs.AppliedFrames.{Base}
use Rattle.standby.specs.Following.{Follows}
use Rattle.cli_standby.specs.Feeding.{HasFed}
use Rattle.cli_standby.proofs.follow_command.feed_all.Given as goal

abbrev pub invariant-pieces : goal.invariant-pieces
invariant-pieces g l = record {
  ready : (base : Base g.row.D.Denot) × (fed : List ℕ) × Follows g.D.LogDisk base fed l.standby;
  fed : (base : Base g.row.D.Denot) → Follows g.D.LogDisk base [] l.fn.standby
      → HasFed g.D.LogDisk base (g.S.Source.left l.fn.input) (g.S.Source.left l.input) l.standby;
  no_fault : g.S.Source.faults l.input ≡ g.S.Source.faults l.fn.input;
  same : l.standby.disk.ghost_name ≡ l.fn.standby.disk.ghost_name;
}

abbrev pub decreases-pieces : goal.decreases-pieces
decreases-pieces g l = g.S.Source.read_allowance l.input
