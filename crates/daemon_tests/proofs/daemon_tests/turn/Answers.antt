use Rattle.std.proofs.Common.{◌∙◌, ap}
use Rattle.log_rule.specs.Views.{knows_all_enrolled}
use Rattle.commit_pipeline.proofs.RanLemmas.{Later-standing}
use Rattle.daemon_tests.proofs.daemon_tests.turn.Goals as goal

pub returns-clause-ready : goal.returns-clause-ready
returns-clause-ready c = c.turn.ensures.ready

pub returns-clause-told : goal.returns-clause-told
returns-clause-told c = ap knows_all_enrolled (Later-standing _ _ _ _ c.turn.ensures.later) ∙ c.requires.told
