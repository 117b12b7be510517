use Rattle.std.proofs.Common.{arith}
use Rattle.log_rule.specs.AccountViews.{took_job}
use Rattle.log_table.specs.Seats.{view_of}
use Rattle.log_rule.proofs.Allowing.{take_job-allowed}
use Rattle.log_rule.proofs.AccountSteps.{job-step}
use Rattle.log_table.proofs.Stepping.{MovesBase-becomes_called}
use Rattle.log_table.proofs.steps.jobs.take_job_as.Goals as goal

pub load-requires : goal.load-requires
load-requires g c = (
  c.requires.seat.table_is,
  omega (arith, c.args.table.now.sized),
  take_job-allowed _ _ _ _ _ _ _ _ _ c.args.table.now.counted c.requires.named.0 c.requires.named.1 c.requires.may,
)

pub returns : goal.returns
returns g c = record {
  loads = record {
    view = MovesBase-becomes_called _ (λ i. took_job (c.requires.named.0 i) (c.requires.named.1 i) c.load.result (view_of c.args.seat.now)) c.load.ensures;
    event = job-step _ _ _ _ _ _ c.args.table.now.counted c.requires.may _;
  };
  stays = c.load.ensures.2.1;
}
