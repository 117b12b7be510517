use Rattle.std.proofs.Common.{rules, arith, ℕ, sym, subst}
use Rattle.log_rule.specs.May.{MayRaise}
use Rattle.log_table.specs.Seats.{view_of, number_of, key_of}
use Rattle.log_rule.proofs.Allowing.{exchange_exposed-allowed}
use Rattle.log_rule.proofs.Raising.{raise-won, raise-lost}
use Rattle.log_table.proofs.table.LogTable.exchange_exposed.Goals as goal

pub compare_exchange-found-requires : goal.compare_exchange-found-requires
compare_exchange-found-requires c = (
  c.requires.seat.table_is,
  omega (arith, c.args.self.now.sized),
  exchange_exposed-allowed (key_of c.args.self.now) _ (number_of c.args.seat.now) c.args.seat.now.base.me c.units.result c.units-2.result
      (subst (λ (p : ℕ × ℕ). MayRaise p.0 p.1 (view_of c.args.seat.now)) (λ i. (sym c.units.ensures i, sym c.units-2.ensures i)) c.requires.next),
)

pub returns-then-found-units-clause-ok_event : goal.returns-then-found-units-clause-ok_event
returns-then-found-units-clause-ok_event c = raise-won _ _ _ _ _ c.requires.next

pub returns-else-found-units-clause-err_event : goal.returns-else-found-units-clause-err_event
returns-else-found-units-clause-err_event c = raise-lost _ _ _ _ _ c.requires.next _ (search rules steps 100000)

pub returns-then-found-units-clause-ok : goal.returns-then-found-units-clause-ok
returns-then-found-units-clause-ok c = search rules steps 1000000

pub returns-then-found-units-clause-ok_grows : goal.returns-then-found-units-clause-ok_grows
returns-then-found-units-clause-ok_grows c = search rules steps 100000

pub returns-else-found-units-clause-err : goal.returns-else-found-units-clause-err
returns-else-found-units-clause-err c = search rules steps 1000000

pub returns-else-found-units-clause-err_grows : goal.returns-else-found-units-clause-err_grows
returns-else-found-units-clause-err_grows c = search rules steps 100000
