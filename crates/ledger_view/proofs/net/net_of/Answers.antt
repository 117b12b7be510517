use Rattle.std.proofs.Common.{arith}
use Rattle.std.proofs.lemmas.Int.{ints}
use Rattle.ledger_view.proofs.NetLemmas.{net_of-take_more}
use Rattle.ledger_view.proofs.net.net_of.Goals as goal

pub loop-change-preserved : goal.loop-change-preserved
loop-change-preserved c =
    let more = net_of-take_more c.args.account c.args.changes.now c.loop-change.change-index c.change-item.result c.loop-change-test.true c.change-item.is in
    let value = c.delta_on-net.ensures.value in let least = c.delta_on-net.ensures.least in let most = c.delta_on-net.ensures.most in
    let bounds = c.loop-change.invariant in
    record { sum = omega (arith, ints); least = omega (arith, ints); most = omega (arith, ints) }
