use Rattle.std.proofs.Common.{◌≡◌}
use Rattle.txn_parts.specs.Desk.{WorksOn, HasOnlyLooked, view_at}
use Rattle.txn_making.proofs.taking.take_one.Given as goal

abbrev pub invariant-loop : goal.invariant-loop
invariant-loop g l = WorksOn g.Q.Relief l.fn.desk l.desk × HasOnlyLooked l.fn.desk l.desk × ((view_at l.desk).seen.stop ≡ 0)
