use Rattle.commit_pipeline.specs.Later.{Later}
use Rattle.commit_pipeline.specs.Turning.{KnowsWorkers, MayTurn}
use Rattle.commit_pipeline.proofs.daemon.Daemon.run_until_drained.Given as goal

abbrev pub invariant-loop : goal.invariant-loop
invariant-loop g l = record {
  later : Later g.D.LogDisk g.K.Sink l.initial.self l.self;
  ready : MayTurn g.D.LogDisk l.self;
  told : KnowsWorkers l.self;
}
