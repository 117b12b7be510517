use Rattle.std.proofs.Common.{arith}
use Rattle.log_rule.proofs.Allowing.{load_crew-allowed}
use Rattle.log_rule.proofs.Stopping.{saw_crew-step}
use Rattle.log_table.proofs.Stepping.{MovesBase-becomes}
use Rattle.log_table.proofs.table.LogTable.load_crew.Goals as goal

pub load-requires : goal.load-requires
load-requires c = (c.requires.table_is, omega (arith, c.args.self.now.sized), load_crew-allowed _ _ _ _)

pub returns : goal.returns
returns c = record { view = MovesBase-becomes c.load.ensures; event = saw_crew-step _ _ _ _ }
