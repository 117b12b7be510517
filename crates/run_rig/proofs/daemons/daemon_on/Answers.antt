use Rattle.std.proofs.Common.{arith, ◌∙◌, ap, sym, subst}
use Rattle.log_rule.specs.declared.view.Sending.{Sending}
use Rattle.log_table.specs.Seats.{view_of}
use Rattle.flusher.specs.declared.flusher.Flusher.{Flusher}
use Rattle.flusher.specs.Flushing.{MayFlush}
use Rattle.run_rig.proofs.daemons.daemon_on.Goals as goal

pub returns-clause-ready : goal.returns-clause-ready
returns-clause-ready g c = record {
  flusher = subst (MayFlush g.D.LogDisk) (sym c.make.ensures.flusher) c.in_ok-flusher.ensures.ready;
  fine = c.make.ensures.fine;
  running = ap (λ (f : Flusher _ _). (view_of f.seat).sending.stop) c.make.ensures.flusher
      ∙ ap (λ seat. (view_of seat).sending.stop) c.in_ok-flusher.ensures.seat
      ∙ ap (λ (sending : Sending). sending.stop) c.requires.flusher_seat.1.knows.sending;
  counted = omega (arith, c.make.ensures.done, c.make.ensures.refused);
  all_told = c.make.ensures.told;
}
