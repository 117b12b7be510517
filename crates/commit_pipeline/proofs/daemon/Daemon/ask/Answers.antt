use Rattle.std.proofs.Common.{refl, inr, ap, ◌∙◌, length, arith}
use mathlib.Core.Logic.{∥∥₁_map}
use Rattle.log_table.specs.Seats.{view_of}
use Rattle.commit_pipeline.proofs.RanTurns.{Ran-asked}
use Rattle.commit_pipeline.proofs.ToldSoFar.{HasTold-step, HasToldAll-step}
use Rattle.commit_pipeline.proofs.ToldTurns.{constants-asked, sent-asked, stop-asked}
use Rattle.commit_pipeline.proofs.daemon.Daemon.ask.Goals as goal

pub invariant_of-self : goal.invariant_of-self
invariant_of-self g c =
    let old = c.args.self.now in
    let constants = constants-asked old.flusher c.drained.new.self c.drained.result c.drained.ensures.asks in
    let sent = sent-asked old.flusher c.drained.new.self c.drained.result c.drained.ensures.asks in
    record {
      told = ∥∥₁_map old.told (λ told.
          HasTold-step g.K.Sink old.first.value old.voice (view_of old.begun.value) old.sink.now (view_of old.flusher.seat)
          (view_of c.drained.new.self.seat) constants told sent);
    }

pub returns-clause-ready : goal.returns-clause-ready
returns-clause-ready g c =
    let old = c.args.self.now in
    let constants = constants-asked old.flusher c.drained.new.self c.drained.result c.drained.ensures.asks in
    let sent = sent-asked old.flusher c.drained.new.self c.drained.result c.drained.ensures.asks in
    record {
      flusher = c.drained.ensures.ready;
      fine = c.requires.ready.fine;
      running = stop-asked old.flusher c.drained.new.self c.drained.result c.drained.ensures.asks ∙ c.requires.ready.running;
      counted = omega (arith, c.requires.ready.counted, ap length sent);
      all_told = HasToldAll-step g.K.Sink old.first.value old.voice (view_of old.begun.value) old.sink.now (view_of old.flusher.seat)
          (view_of c.drained.new.self.seat) constants c.requires.ready.all_told sent;
    }

pub returns-clause-later : goal.returns-clause-later
returns-clause-later g c =
    inr (Ran-asked g.D.LogDisk g.K.Sink c.args.self.now
    (record c.args.self.now { flusher = c.drained.new.self; told = _ }) (_, refl) c.drained.ensures.rest c.drained.result
    c.drained.ensures.asks c.requires.ready (returns-clause-ready g c))
