use Rattle.std.proofs.Common.{arith}
use Rattle.log_rule.proofs.Allowing.{store_stop-allowed}
use Rattle.log_rule.proofs.Stopping.{stop-step}
use Rattle.log_table.proofs.Stepping.{MovesBase-becomes}
use Rattle.log_table.proofs.table.LogTable.store_stop.Goals as goal

pub store-requires : goal.store-requires
store-requires c = (c.requires.seat.table_is, omega (arith, c.args.self.now.sized), store_stop-allowed _ _ _ _ _ c.requires.may)

pub returns : goal.returns
returns c = record { view = MovesBase-becomes c.store.ensures; event = stop-step _ _ _ _ c.requires.may }
