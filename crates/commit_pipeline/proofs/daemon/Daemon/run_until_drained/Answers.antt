use Rattle.std.proofs.Common.{rules, ap, ◌∙◌}
use Rattle.log_rule.specs.Views.{knows_all_enrolled}
use Rattle.commit_pipeline.proofs.RanLemmas.{Later-trans, Later-standing}
use Rattle.commit_pipeline.proofs.daemon.Daemon.run_until_drained.Goals as goal

pub turn-requires : goal.turn-requires
turn-requires g c = record { ready = c.loop.invariant.ready }

pub returns-in_err-turn-clause-later : goal.returns-in_err-turn-clause-later
returns-in_err-turn-clause-later g c =
    Later-trans g.D.LogDisk g.K.Sink c.args.self.now c.loop.self c.turn.new.self c.loop.invariant.later c.turn.ensures.later

pub returns-in-Some-end-clause-later : goal.returns-in-Some-end-clause-later
returns-in-Some-end-clause-later g c =
    Later-trans g.D.LogDisk g.K.Sink c.args.self.now c.turn.new.self c.end.new.self
    (Later-trans g.D.LogDisk g.K.Sink c.args.self.now c.loop.self c.turn.new.self c.loop.invariant.later c.turn.ensures.later)
    c.end.ensures.later

pub loop-preserved : goal.loop-preserved
loop-preserved g c =
    let later = Later-trans g.D.LogDisk g.K.Sink c.args.self.now c.turn.new.self c.end.new.self
    (Later-trans g.D.LogDisk g.K.Sink c.args.self.now c.loop.self c.turn.new.self c.loop.invariant.later c.turn.ensures.later)
    c.end.ensures.later in
    record {
      later = later;
      ready = c.end.ensures.ready;
      told = ap knows_all_enrolled (Later-standing g.D.LogDisk g.K.Sink c.args.self.now c.end.new.self later) ∙ c.requires.told;
    }

pub returns-in-Some-end-clause-drained : goal.returns-in-Some-end-clause-drained
returns-in-Some-end-clause-drained g c = search rules steps 400000
