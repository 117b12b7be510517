use Rattle.std.proofs.Common.{subst}
use Rattle.ring_core.specs.RingLog.{HasUnfilled}
use Rattle.ring_core.specs.LogLaws.{IsSoundLog}
use Rattle.ring_core.specs.LogView.{log_in}
use Rattle.ring_core.proofs.LogLemmas.{read_decided-found_decided, writes-filled, writes-nothing, fills-soundly}
use Rattle.ring_core.proofs.ring_log.RingLog.fill.Goals as goal

pub returns-clause-left : goal.returns-clause-left
returns-clause-left c = read_decided-found_decided c.args.self.now (log_in c.self.inside) c.self.view_is c.self.invariant c.args.base c.in-Some.at
    c.in-Some.ensures.found c.in-Some.ensures.within _ c.index_mut-range.ensures.value HasUnfilled c.fill.result c.fill.ensures.left

pub returns-clause-filled : goal.returns-clause-filled
returns-clause-filled c = writes-filled c.args.self.now (log_in c.self.inside) c.self.view_is c.self.invariant c.args.base c.in-Some.at
    c.in-Some.ensures.found c.in-Some.ensures.within _ c.index_mut-range.ensures.value c.fill.result c.fill.new.self c.fill.ensures.filled

pub returns-clause-none : goal.returns-clause-none
returns-clause-none c = writes-nothing c.args.self.now (log_in c.self.inside) c.self.view_is c.self.invariant c.args.base c.in-Some.at
    c.in-Some.ensures.found c.in-Some.ensures.within _ c.index_mut-range.ensures.value c.fill.result c.fill.new.self c.fill.ensures.none

pub invariant_of-self : goal.invariant_of-self
invariant_of-self c = fills-soundly c.fill.result c.args.self.now _ c.args.base
    (returns-clause-left c) (returns-clause-filled c) (returns-clause-none c) (subst IsSoundLog c.self.view_is c.self.invariant)
