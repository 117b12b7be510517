use Rattle.std.proofs.Common.{◌≡◌, ◌≤◌, ◌*◌, take}
use Rattle.lock_core.specs.Records.{gain, loss}
use Rattle.lock_core.specs.Sums.{moved}
use Rattle.lock_core.proofs.account_changes.moves.Given as goal

abbrev pub invariant-loop-change : goal.invariant-loop-change
invariant-loop-change l = record {
  gained : l.gains ≡ moved gain l.account (take l.change-index l.changes);
  lost : l.losses ≡ moved loss l.account (take l.change-index l.changes);
  gained_bound : l.gains ≤ 4294967295 * l.change-index;
  lost_bound : l.losses ≤ 4294967295 * l.change-index;
}
