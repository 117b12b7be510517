use Rattle.std.proofs.Common.{subst}
use Rattle.ring_core.specs.RingLog.{IsFull}
use Rattle.ring_core.specs.LogLaws.{IsSoundLog}
use Rattle.ring_core.specs.LogView.{log_in}
use Rattle.ring_core.proofs.LogLemmas.{read_decided-found_decided, writes-marked, writes-nothing, marks-soundly}
use Rattle.ring_core.proofs.ring_log.RingLog.mark.Goals as goal

pub returns-clause-full : goal.returns-clause-full
returns-clause-full c = read_decided-found_decided c.args.self.now (log_in c.self.inside) c.self.view_is c.self.invariant c.args.base c.in-Some.at
    c.in-Some.ensures.found c.in-Some.ensures.within _ c.index_mut-range.ensures.value IsFull c.mark.result c.mark.ensures.full

pub returns-clause-marked : goal.returns-clause-marked
returns-clause-marked c = writes-marked c.args.self.now (log_in c.self.inside) c.self.view_is c.self.invariant c.args.base c.in-Some.at
    c.in-Some.ensures.found c.in-Some.ensures.within _ c.index_mut-range.ensures.value c.mark.result c.mark.new.self c.mark.ensures.marked

pub returns-clause-none : goal.returns-clause-none
returns-clause-none c = writes-nothing c.args.self.now (log_in c.self.inside) c.self.view_is c.self.invariant c.args.base c.in-Some.at
    c.in-Some.ensures.found c.in-Some.ensures.within _ c.index_mut-range.ensures.value c.mark.result c.mark.new.self c.mark.ensures.none

pub invariant_of-self : goal.invariant_of-self
invariant_of-self c = marks-soundly c.mark.result c.args.self.now _ c.args.base
    (returns-clause-full c) (returns-clause-marked c) (returns-clause-none c) (subst IsSoundLog c.self.view_is c.self.invariant)
