use Rattle.log_table.specs.Seats.{view_of}
use Rattle.txn_making.proofs.Backing.{GoesBack-unchanged}
use Rattle.txn_making.proofs.giving.give_unchanged.Goals as goal

pub give_all-requires-clause-holds : goal.give_all-requires-clause-holds
give_all-requires-clause-holds c = c.requires.holds

pub give_all-requires-clause-values : goal.give_all-requires-clause-values
give_all-requires-clause-values c = GoesBack-unchanged (view_of c.args.seat.now).books c.requires.uncommitted _

pub returns : goal.returns
returns c = c.give_all.ensures
