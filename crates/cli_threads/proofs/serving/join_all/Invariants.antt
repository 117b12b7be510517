use Rattle.std.proofs.Common.{◌≡◌, ◌+◌, length, vec_capacity}
use Rattle.cli_threads.specs.Workers.{IsDoneAs, IsStartedAs}
use Rattle.cli_workers.proofs.NumberedLemmas.{Makes}
use Rattle.cli_threads.proofs.serving.join_all.Given as goal

abbrev pub invariant-loop-one : goal.invariant-loop-one
invariant-loop-one g l = record {
  makes : Makes (IsStartedAs l.run.table.now l.run.queue.now l.run.wait) (IsDoneAs l.run.table.now l.run.queue.now l.run.wait) l.yielded l.one-iterator.rest.items l.back.items;
  all : length l.yielded + length l.one-iterator.rest.items ≡ length l.initial.one-iterator.rest.items;
  room : vec_capacity l.back ≡ vec_capacity l.initial.back;
  relief : g.Q.Relief.ready l.relief;
  later : g.Q.Relief.later l.initial.relief l.relief;
}
