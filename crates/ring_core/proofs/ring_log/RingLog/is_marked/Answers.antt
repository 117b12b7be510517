use Rattle.std.proofs.Common.{◌∙◌, sym}
use Rattle.ring_core.specs.LogView.{log_in}
use Rattle.ring_core.proofs.LogKeeping.{found-marked_if_released}
use Rattle.ring_core.proofs.LogLemmas.{read-found_at_base}
use Rattle.ring_core.proofs.ring_log.RingLog.is_marked.Goals as goal

pub returns-in-Some : goal.returns-in-Some
returns-in-Some c = c.is_released.ensures ∙ sym (found-marked_if_released c.args.place c.args.self.now.reservations _
    (read-found_at_base c.args.self.now (log_in c.self.inside) c.self.view_is c.self.invariant c.args.place c.in-Some.at
    c.in-Some.ensures.found c.in-Some.ensures.within _ c.index-range.ensures))
