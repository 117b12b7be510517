use Rattle.std.proofs.Common.{inr, Some}
use Rattle.commit_pipeline.proofs.RanTurns.{Ran-turned, Ran-failed}
use Rattle.commit_pipeline.proofs.TurnLemmas.{MayTurn-may_go_on, Turns-made, Fails-made, MayTurn-made, IsSameDaemon-made}
use Rattle.log_table.specs.Seats.{view_of}
use Rattle.commit_pipeline.proofs.ToldTurns.{HasTold-turn, HasToldAll-made}
use Rattle.commit_pipeline.proofs.daemon.Daemon.turn.Goals as goal

-- what was told is of what was sent, whatever the turn answers
pub invariant_of-self : goal.invariant_of-self
invariant_of-self g c =
    let old = c.args.self.now in
    let new = c.make_turn-made.new in
    let made = c.make_turn-made.ensures in
    record {
      told = ∣ HasTold-turn g.D.LogDisk g.K.Sink old.voice old.flusher new.flusher old.sink.now new.sink old.first.value old.tally new.tally
          (view_of old.begun.value) c.requires.ready.all_told c.requires.ready.flusher.unread c.make_turn-made.result made.made
          made.failed ∣₁;
    }

pub invariant_of-self-in-Err : goal.invariant_of-self-in-Err
invariant_of-self-in-Err g c =
    let old = c.args.self.now in
    let new = c.make_turn-made.new in
    let made = c.make_turn-made.ensures in
    record {
      told = ∣ HasTold-turn g.D.LogDisk g.K.Sink old.voice old.flusher new.flusher old.sink.now new.sink old.first.value old.tally new.tally
          (view_of old.begun.value) c.requires.ready.all_told c.requires.ready.flusher.unread c.make_turn-made.result made.made
          made.failed ∣₁;
    }

pub make_turn-made-requires : goal.make_turn-made-requires
make_turn-made-requires g c = record { ready = MayTurn-may_go_on g.D.LogDisk c.args.self.now c.requires.ready }

pub returns-in-Ok-clause-turned : goal.returns-in-Ok-clause-turned
returns-in-Ok-clause-turned g c =
    let new = c.make_turn-made.new in
    Turns-made g.D.LogDisk g.K.Sink c.args.self.now new.flusher new.sink new.tally _ c.in-Ok.turn c.in-Ok.ensures.made
    c.requires.ready.fine

pub returns-in-Ok-clause-ready : goal.returns-in-Ok-clause-ready
returns-in-Ok-clause-ready g c =
    let old = c.args.self.now in
    let new = c.make_turn-made.new in
    MayTurn-made g.D.LogDisk g.K.Sink old new.flusher new.sink new.tally _ c.in-Ok.ensures.ready c.requires.ready.fine
    (HasToldAll-made g.D.LogDisk g.K.Sink old.voice old.flusher new.flusher old.sink.now new.sink old.first.value old.tally new.tally
    (view_of old.begun.value) c.requires.ready.all_told c.requires.ready.flusher.unread c.in-Ok.turn c.in-Ok.ensures.made)

pub returns-in-Ok-clause-counted : goal.returns-in-Ok-clause-counted
returns-in-Ok-clause-counted g c = c.make_turn-made.ensures.counted

pub returns-in-Ok-clause-later : goal.returns-in-Ok-clause-later
returns-in-Ok-clause-later g c =
    let new = c.make_turn-made.new in
    inr (Ran-turned g.D.LogDisk g.K.Sink c.args.self.now _ c.in-Ok.turn (returns-in-Ok-clause-turned g c) c.requires.ready
    (IsSameDaemon-made g.D.LogDisk g.K.Sink c.args.self.now new.flusher new.sink new.tally _ _ c.make_turn-made.ensures.same)
    (returns-in-Ok-clause-ready g c))

pub returns-in-Err-clause-failed : goal.returns-in-Err-clause-failed
returns-in-Err-clause-failed g c =
    let new = c.make_turn-made.new in
    Fails-made g.D.LogDisk g.K.Sink c.args.self.now new.flusher new.sink new.tally _ c.in-Err.fault c.in-Err.ensures.failed

pub returns-in-Err-clause-counted : goal.returns-in-Err-clause-counted
returns-in-Err-clause-counted g c = c.make_turn-made.ensures.counted

pub returns-in-Err-clause-later : goal.returns-in-Err-clause-later
returns-in-Err-clause-later g c =
    let new = c.make_turn-made.new in
    inr (Ran-failed g.D.LogDisk g.K.Sink c.args.self.now _ c.in-Err.fault (returns-in-Err-clause-failed g c) c.requires.ready
    (IsSameDaemon-made g.D.LogDisk g.K.Sink c.args.self.now new.flusher new.sink new.tally _ (Some c.in-Err.fault)
    c.make_turn-made.ensures.same))
