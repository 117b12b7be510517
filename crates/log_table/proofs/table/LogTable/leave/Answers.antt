use Rattle.std.proofs.Common.{arith}
use Rattle.log_rule.proofs.Allowing.{leave-allowed}
use Rattle.log_rule.proofs.Crewing.{leave-step}
use Rattle.log_table.proofs.Stepping.{MovesBase-becomes}
use Rattle.log_table.proofs.table.LogTable.leave.Goals as goal

pub fetch_sub-requires : goal.fetch_sub-requires
fetch_sub-requires c = (c.requires.seat.table_is, omega (arith, c.args.self.now.sized), leave-allowed _ _ _ _ c.requires.may)

pub returns : goal.returns
returns c = record { view = MovesBase-becomes c.fetch_sub.ensures; event = leave-step _ _ _ c.requires.may }
