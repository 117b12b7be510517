use Rattle.std.proofs.Common.{rules, ◌∙◌}
use Rattle.commit_pipeline.proofs.RanLemmas.{Later-same_daemon, Later-trans}
use Rattle.cli_threads.proofs.scope.fn.serve_all.scope.Goals as goal

pub start_all-started-requires-clause-hands : goal.start_all-started-requires-clause-hands
start_all-started-requires-clause-hands g c = λ κs within. c.requires.hands.start

pub returns : goal.returns
returns g c =
    let starts = Later-trans g.D.LogDisk g.K.Sink _ _ _ c.start_all-started.ensures.later c.drain.ensures.later in
    let joins = Later-trans g.D.LogDisk g.K.Sink _ _ _ starts c.join_all-workers.ensures.later in
    let all = Later-trans g.D.LogDisk g.K.Sink _ _ _ joins c.drain-2.ensures.later in
    record {
      served = record {
        done = c.join_all-workers.ensures.done;
        count = c.join_all-workers.ensures.count ∙ c.start_all-started.ensures.count;
        drained = c.drain-2.ensures.drained;
        later = all;
        same = Later-same_daemon g.D.LogDisk g.K.Sink _ _ all;
      };
      relief = search rules;
    }
