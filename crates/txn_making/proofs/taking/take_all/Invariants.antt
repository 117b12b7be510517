use Rattle.std.proofs.Common.{take}
use Rattle.txn_parts.specs.Desk.{WorksOn}
use Rattle.txn_making.specs.Holdings.{TakesAll}
use Rattle.txn_making.proofs.taking.take_all.Given as goal

abbrev pub invariant-accounts : goal.invariant-accounts
invariant-accounts g l = WorksOn g.Q.Relief l.fn.desk l.desk
    × TakesAll (take l.account-index l.fn.accounts) l.holdings.items l.fn.desk.seat.now l.desk.seat.now
