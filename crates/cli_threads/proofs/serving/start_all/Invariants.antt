use Rattle.std.proofs.Common.{◌≡◌, ◌+◌, length, vec_capacity}
use Rattle.cli_workers.specs.Workers.{IsUnusedAs}
use Rattle.cli_threads.specs.Workers.{IsStartedAs}
use Rattle.cli_workers.proofs.NumberedLemmas.{Makes}
use Rattle.cli_threads.proofs.serving.start_all.Given as goal

abbrev pub invariant-loop-worker : goal.invariant-loop-worker
invariant-loop-worker g l = record {
  makes : Makes (IsUnusedAs l.run.table.now l.run.queue.now) (IsStartedAs l.run.table.now l.run.queue.now l.run.wait) l.yielded l.worker-iterator.rest.items l.started.items;
  all : length l.yielded + length l.worker-iterator.rest.items ≡ length l.initial.worker-iterator.rest.items;
  room : vec_capacity l.started ≡ vec_capacity l.initial.started;
  relief : g.Q.Relief.ready l.relief;
  later : g.Q.Relief.later l.initial.relief l.relief;
}
