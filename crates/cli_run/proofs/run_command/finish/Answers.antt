use Rattle.cli_threads.proofs.EndingLemmas.{ended-none_stopped}
use Rattle.cli_run.proofs.run_command.finish.Goals as goal

pub conclude-requires : goal.conclude-requires
conclude-requires g c = λ fine.
    let opened = c.requires.opened in
    ended-none_stopped g.D.LogDisk g.K.Sink _ opened.0 _ _ _ _ _ _ (c.run_transfers-ended.ensures.ended opened.0 opened.1) fine

pub returns : goal.returns
returns g c = λ opened log. record {
  ended = c.run_transfers-ended.result;
  told = c.run_transfers-ended.new.out;
  has = rw (c.plan_of_run-plan.ensures.voice, c.plan_of_run-plan.ensures.wait) at (c.run_transfers-ended.ensures.ended opened log);
  concludes = c.conclude.ensures.concludes;
  write = c.conclude.ensures.write;
}
