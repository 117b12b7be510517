use Rattle.std.proofs.Common.{rules}
use Rattle.ring_core.proofs.run.RingRun.apply.Goals as goal

pub returns-in-Reserve-clause-step : goal.returns-in-Reserve-clause-step
returns-in-Reserve-clause-step c = search rules steps 500000

pub returns-in-Fill-clause-step : goal.returns-in-Fill-clause-step
returns-in-Fill-clause-step c = search rules steps 500000

pub returns-in-Mark-clause-step : goal.returns-in-Mark-clause-step
returns-in-Mark-clause-step c = search rules steps 500000

pub returns-in-LookExposed-clause-step : goal.returns-in-LookExposed-clause-step
returns-in-LookExposed-clause-step c = search rules steps 500000

pub returns-in-LookMark-clause-step : goal.returns-in-LookMark-clause-step
returns-in-LookMark-clause-step c = search rules steps 500000

pub returns-in-Raise-clause-step : goal.returns-in-Raise-clause-step
returns-in-Raise-clause-step c = search rules steps 500000

pub returns-in-Flushed-clause-step : goal.returns-in-Flushed-clause-step
returns-in-Flushed-clause-step c = search rules steps 500000
