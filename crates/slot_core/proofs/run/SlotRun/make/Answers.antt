use Rattle.std.proofs.Common.{sym, subst}
use Rattle.ring_core.specs.LogLaws.{IsSoundLog}
use Rattle.slot_core.specs.Laws.{IsSound}
use Rattle.slot_core.proofs.Resting.{start-sound}
use Rattle.slot_core.proofs.run.SlotRun.make.Goals as goal

pub invariant_of-result : goal.invariant_of-result
invariant_of-result c =
    let log = subst IsSoundLog c.make.ensures (subst IsSoundLog c.drop.view_is c.drop.invariant) in
    subst IsSound (λ i. record { log = (sym c.make.ensures) i; hands = (sym c.new.ensures.items) i; groups = (sym c.in_ok-empty_groups.ensures) i })
    (start-sound c.args.start c.args.ring c.args.slots log.within_log)
