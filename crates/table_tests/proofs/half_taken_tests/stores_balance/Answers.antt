use Rattle.table_tests.proofs.Paying.{MayStoreBalance-paid, HasHalfGiven-stored}
use Rattle.table_tests.proofs.half_taken_tests.stores_balance.Goals as goal

pub store_balance-requires-clause-next : goal.store_balance-requires-clause-next
store_balance-requires-clause-next c =
    let paid = c.requires.paid in
    MayStoreBalance-paid c.args.table.now c.args.seat.now c.args._end paid.0 paid.1 paid.2

pub returns : goal.returns
returns c = HasHalfGiven-stored c.args.table.now c.args.seat.now c.store_balance.new.seat c.args._end c.requires.paid c.store_balance.ensures.view
