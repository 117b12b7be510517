use Rattle.std.proofs.Common.{subst, sym}
use Rattle.commit_pipeline.specs.Turning.{GoesOn}
use Rattle.commit_pipeline.proofs.daemon.Daemon.end.Goals as goal

pub returns-in-Active-clause-none : goal.returns-in-Active-clause-none
returns-in-Active-clause-none g c = (c.ask.result, subst GoesOn (sym c.in-Active.is) tt, c.ask.ensures.asks)

pub returns-in-Behind-clause-none : goal.returns-in-Behind-clause-none
returns-in-Behind-clause-none g c = (c.ask.result, subst GoesOn (sym c.in-Behind.is) tt, c.ask.ensures.asks)

pub returns-in-At-clause-none : goal.returns-in-At-clause-none
returns-in-At-clause-none g c = tt

pub returns-in-Behind-clause-at : goal.returns-in-Behind-clause-at
returns-in-Behind-clause-at g c = tt
