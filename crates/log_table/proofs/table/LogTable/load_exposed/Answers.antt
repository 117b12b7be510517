use Rattle.std.proofs.Common.{arith}
use Rattle.log_rule.proofs.Allowing.{load_exposed-allowed}
use Rattle.log_rule.proofs.Exposing.{saw_exposed-step}
use Rattle.log_table.proofs.table.LogTable.load_exposed.Goals as goal

pub load-requires : goal.load-requires
load-requires c = (c.requires.table_is, omega (arith, c.args.self.now.sized), load_exposed-allowed _ _ _ _)

pub returns-clause-event : goal.returns-clause-event
returns-clause-event c = saw_exposed-step _ _ _ _
