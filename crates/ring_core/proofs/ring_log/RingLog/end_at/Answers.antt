use Rattle.std.proofs.Common.{◌∙◌, sym, arith}
use Rattle.ring_core.specs.LogView.{log_in}
use Rattle.ring_core.proofs.LogKeeping.{end_at-found}
use Rattle.ring_core.proofs.LogLemmas.{read-found_at_base, reservation_end-within_log}
use Rattle.ring_core.proofs.ring_log.RingLog.end_at.Goals as goal

pub overflow_cast-result : goal.overflow_cast-result
overflow_cast-result c =
    let fits = reservation_end-within_log c.args.self.now (log_in c.self.inside) c.self.view_is c.self.invariant c.args.base c.in-Some.at
    c.in-Some.ensures.found c.in-Some.ensures.within _ c.index-range.ensures in
    omega (arith, c.end.ensures, fits)

pub returns-in-Some : goal.returns-in-Some
returns-in-Some c = c.end.ensures ∙ sym (end_at-found c.args.base c.args.self.now.reservations _
    (read-found_at_base c.args.self.now (log_in c.self.inside) c.self.view_is c.self.invariant c.args.base c.in-Some.at
    c.in-Some.ensures.found c.in-Some.ensures.within _ c.index-range.ensures))
