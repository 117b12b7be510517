use Rattle.std.proofs.Common.{arith}
use Rattle.lock_core.specs.Records.{gain, loss}
use Rattle.lock_core.proofs.ChangesLemmas.{moved-take_more}
use Rattle.lock_core.proofs.account_changes.moves.Goals as goal

pub loop-change-preserved : goal.loop-change-preserved
loop-change-preserved c =
    let gained = moved-take_more gain c.args.account c.args.changes.now c.loop-change.change-index c.change-item.result c.loop-change-test.true c.change-item.is in
    let lost = moved-take_more loss c.args.account c.args.changes.now c.loop-change.change-index c.change-item.result c.loop-change-test.true c.change-item.is in
    record { gained = omega arith; lost = omega arith; gained_bound = omega arith; lost_bound = omega arith }
