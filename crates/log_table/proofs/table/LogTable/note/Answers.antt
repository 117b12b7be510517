use Rattle.std.proofs.Common.{arith}
use Rattle.log_table.specs.Seats.{view_of, number_of, key_of}
use Rattle.log_rule.proofs.Noting.{note-allowed}
use Rattle.log_table.proofs.table.LogTable.note.Goals as goal

pub split_seat-base-requires : goal.split_seat-base-requires
split_seat-base-requires c = (
  c.requires.seat.table_is,
  omega (arith, c.args.self.now.sized),
  note-allowed (key_of c.args.self.now) (number_of c.args.seat.now) (view_of c.args.seat.now) c.requires.unspent,
)

pub returns-clause-view : goal.returns-clause-view
returns-clause-view c = λ i. (c.split_seat-base.ensures.4 i).0
