use Rattle.std.proofs.Common.{arith}
use Rattle.log_rule.proofs.Allowing.{load_stop-allowed}
use Rattle.log_rule.proofs.Loads.{saw_stop-step}
use Rattle.log_table.proofs.Stepping.{MovesBase-becomes}
use Rattle.log_table.proofs.table.LogTable.load_stop.Goals as goal

pub load-requires : goal.load-requires
load-requires c = (c.requires.table_is, omega (arith, c.args.self.now.sized), load_stop-allowed _ _ _ _)

pub returns : goal.returns
returns c = record {
  loads = record { view = MovesBase-becomes c.load.ensures; event = saw_stop-step _ _ _ _ };
  stays = c.load.ensures.2.1;
}
