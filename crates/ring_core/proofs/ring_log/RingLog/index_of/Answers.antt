use Rattle.ring_core.specs.RingLog.{is_at}
use Rattle.ring_core.proofs.LookupLemmas.{find-position}
use Rattle.ring_core.proofs.ring_log.RingLog.index_of.Goals as goal

pub returns-clause-found : goal.returns-clause-found
returns-clause-found c = rw (c.index_at.ensures, c.deref.ensures.value, ← c.self.view_is)
    (find-position (is_at c.args.base) c.self.inside.ranges.items)
