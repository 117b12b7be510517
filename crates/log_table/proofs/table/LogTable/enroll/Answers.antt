use Rattle.std.proofs.Common.{arith}
use Rattle.log_rule.proofs.Allowing.{enroll-allowed}
use Rattle.log_rule.proofs.Crewing.{enroll-step}
use Rattle.log_table.proofs.Stepping.{MovesBase-becomes}
use Rattle.log_table.proofs.table.LogTable.enroll.Goals as goal

pub fetch_add-requires : goal.fetch_add-requires
fetch_add-requires c = (c.requires.seat.table_is, omega (arith, c.args.self.now.sized), enroll-allowed _ _ _ _ c.requires.fresh)

pub returns : goal.returns
returns c = record { view = MovesBase-becomes c.fetch_add.ensures; event = enroll-step _ _ _ c.requires.fresh }
