use Rattle.std.proofs.Common.{refl, ap}
use mathlib.Core.Logic.{∥∥₁_map}
use Rattle.log_rule.specs.declared.view.View.{View}
use Rattle.log_table.specs.Seats.{view_of}
use Rattle.daemon_turn.proofs.TurnLemmas.{KeepsLog-same_sent_read}
use Rattle.commit_pipeline.proofs.ToldSoFar.{HasTold-step}
use Rattle.commit_pipeline.proofs.daemon.Daemon.take_in.Goals as goal

-- what was sent, read and told is as it was
pub invariant_of-flusher : goal.invariant_of-flusher
invariant_of-flusher g c =
    let is = ap (λ m. m.0) c.merge.ensures.view.me in
    record {
      keeps = KeepsLog-same_sent_read c.args.self.now.flusher c.merge.new.seat (ap (λ (v : View). v.sending.sent) is)
          (ap (λ (v : View). v.sending.read) is);
    }

pub invariant_of-self : goal.invariant_of-self
invariant_of-self g c =
    let old = c.args.self.now in
    let is = ap (λ m. m.0) c.merge.ensures.view.me in
    record {
      told = ∥∥₁_map old.told (λ told.
          HasTold-step g.K.Sink old.first.value old.voice (view_of old.begun.value) old.sink.now (view_of old.flusher.seat)
          (view_of c.merge.new.seat) (ap (λ (v : View). v.constants) is) told (ap (λ (v : View). v.sending.sent) is));
    }

pub returns-clause-flusher : goal.returns-clause-flusher
returns-clause-flusher g c = (_, refl)

pub returns-clause-rest : goal.returns-clause-rest
returns-clause-rest g c = (_, refl)
