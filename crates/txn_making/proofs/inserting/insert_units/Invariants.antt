use Rattle.txn_parts.specs.Desk.{WorksOn, HasOnlyLooked}
use Rattle.txn_making.proofs.inserting.insert_units.Given as goal

abbrev pub invariant-loop : goal.invariant-loop
invariant-loop g l = WorksOn g.Q.Relief l.fn.desk l.desk × HasOnlyLooked l.fn.desk l.desk
