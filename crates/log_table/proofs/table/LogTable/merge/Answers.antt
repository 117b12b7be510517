use Rattle.std.proofs.Common.{rules, arith, ◌∙◌, refl}
use Rattle.log_table.specs.Seats.{view_of, number_of, key_of}
use Rattle.log_rule.proofs.Allowing.{tell_stop-allowed}
use Rattle.log_rule.proofs.Merging.{merge-allowed}
use Rattle.log_table.proofs.table.LogTable.merge.Goals as goal

pub join_seat-requires : goal.join_seat-requires
join_seat-requires c = (
  c.requires.seat.table_is,
  c.requires.other.table_is,
  c.requires.other.no_slots,
  omega (arith, c.args.self.now.sized),
  merge-allowed (key_of c.args.self.now) (number_of c.args.seat.now) (view_of c.args.seat.now) _ (view_of c.args.other) c.requires.may,
)

pub load-requires : goal.load-requires
load-requires c = (c.join_seat.ensures.0 ∙ c.requires.seat.table_is, omega (arith, c.args.self.now.sized), tell_stop-allowed _ _ _ _)

pub returns-clause-view : goal.returns-clause-view
returns-clause-view c = let joined = c.join_seat.ensures in let told = c.load.ensures in record {
  table_is = told.0 ∙ joined.0;
  number = told.1 ∙ joined.1;
  me = told.2.0 ∙ joined.2;
  worker = refl;
}

pub returns-clause-stops : goal.returns-clause-stops
returns-clause-stops c = search rules steps 600000
