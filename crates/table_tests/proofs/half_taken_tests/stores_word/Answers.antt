use Rattle.table_tests.proofs.Paying.{MayGiveBack-half_given}
use Rattle.table_tests.proofs.half_taken_tests.stores_word.Goals as goal

pub store_account-requires-clause-next : goal.store_account-requires-clause-next
store_account-requires-clause-next c = MayGiveBack-half_given c.args.table.now c.args.seat.now c.args.end c.free.result c.requires.stored
    c.free.ensures.held c.free.ensures.mark
