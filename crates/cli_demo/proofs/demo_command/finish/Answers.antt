use Rattle.cli_threads.proofs.EndingLemmas.{ended-none_stopped}
use Rattle.cli_demo.proofs.CountedRows.{ended_rows-le_4096}
use Rattle.cli_demo.proofs.demo_command.finish.Goals as goal

pub conclude_counted-requires-clause-stopped : goal.conclude_counted-requires-clause-stopped
conclude_counted-requires-clause-stopped g c = λ fine.
    ended-none_stopped g.D.LogDisk g.K.Sink _ _ _ _ _ _ _ _ (c.run_transfers-ended.ensures.ended _ c.requires.opened) fine

pub conclude_counted-requires-clause-few : goal.conclude_counted-requires-clause-few
conclude_counted-requires-clause-few g c =
    ended_rows-le_4096 g.D.LogDisk g.K.Sink _ _ _ _ _ _ (rw (c.plan_of_demo-plan.ensures.voice, c.plan_of_demo-plan.ensures.wait) at (c.run_transfers-ended.ensures.ended _ c.requires.opened))

pub returns : goal.returns
returns g c = record {
  ended = c.run_transfers-ended.result;
  left = c.run_transfers-ended.new.out;
  has = rw (c.plan_of_demo-plan.ensures.voice, c.plan_of_demo-plan.ensures.wait) at (c.run_transfers-ended.ensures.ended _ c.requires.opened);
  concludes = c.conclude_counted.ensures.concludes;
  write = c.conclude_counted.ensures.write;
}
