use Rattle.std.proofs.Common.{List, ℕ}
use Rattle.standby.specs.AppliedFrames.{Base}
use Rattle.standby.specs.Following.{Follows}
use Rattle.stream_tests.proofs.standby_rig.feed_all.Given as goal

abbrev pub invariant-pieces : goal.invariant-pieces
invariant-pieces g l = (base : Base g.row.D.Denot) × (fed : List ℕ) × Follows g.D.LogDisk base fed l.standby
