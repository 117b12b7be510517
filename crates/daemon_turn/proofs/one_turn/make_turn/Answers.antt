use Rattle.std.proofs.Common.{refl, subst, arith}
use Rattle.flusher.specs.Flushing.{Flushes}
use Rattle.daemon_turn.proofs.TurnLemmas.{FindsAll-found, SendsAndTells-told, CannotSend-stop, CannotTell-stop, MayGoOn-found, MayGoOn-sent}
use Rattle.daemon_turn.proofs.TurnLemmas.{IsSame-stop, Sends-counted_le_sent, sent-lost, sent-stop, KeepsLog-has_stopped, StandsInAll-sent}
use Rattle.daemon_turn.proofs.one_turn.make_turn.Goals as goal

-- each image holds the batch before a line of it is written
pub tell-told-requires-clause-held : goal.tell-told-requires-clause-held
tell-told-requires-clause-held g c =
    let sends = subst (Flushes g.D.LogDisk c.args.flusher.now c.flush.new.self) c.in-To.is c.in-Ok.ensures.flushed in
    StandsInAll-sent g.D.LogDisk c.args.flusher.now c.flush.new.self c.in-To.from c.in-To.to c.requires.ready.flusher
    c.in-Ok.ensures.ready sends

pub invariant_of-flusher : goal.invariant_of-flusher
invariant_of-flusher g c = record { keeps = KeepsLog-has_stopped c.flush.new.self c.tell_fault.new.seat _ c.tell_fault.ensures.stops }

pub invariant_of-flusher-in-Err : goal.invariant_of-flusher-in-Err
invariant_of-flusher-in-Err g c =
    record { keeps = KeepsLog-has_stopped c.flush.new.self c.tell_fault-in-Err.new.seat _ c.tell_fault-in-Err.ensures.stops }

pub returns-in_default-clause-failed : goal.returns-in_default-clause-failed
returns-in_default-clause-failed g c =
    rw c.tell_fault.ensures.fault (CannotSend-stop g.D.LogDisk g.K.Sink c.args.voice c.args.flusher.now c.args.sink.now c.args.tally.now
    c.flush.new.self _ c.in_default.ensures.lost record { seat = c.tell_fault.ensures.stops; rest = (_, refl) }
    c.in_default.ensures.cause.failed)

pub returns-in_default-clause-same : goal.returns-in_default-clause-same
returns-in_default-clause-same g c =
    IsSame-stop g.D.LogDisk c.args.flusher.now c.flush.new.self _ _ c.flush.ensures.same
    record { seat = c.tell_fault.ensures.stops; rest = (_, refl) }

pub returns-in_default-clause-counted : goal.returns-in_default-clause-counted
returns-in_default-clause-counted g c = omega (
  arith,
  c.requires.ready.counted,
  sent-lost g.D.LogDisk c.args.flusher.now c.flush.new.self c.in_default.ensures.lost,
  sent-stop c.flush.new.self.seat c.tell_fault.new.seat _ c.tell_fault.ensures.stops,
)

pub returns-in_default-flushed-clause-made : goal.returns-in_default-flushed-clause-made
returns-in_default-flushed-clause-made g c =
    let finds = subst (Flushes g.D.LogDisk c.args.flusher.now c.flush.new.self) c.in_default-flushed.is c.in-Ok.ensures.flushed in
    FindsAll-found g.D.LogDisk g.K.Sink c.args.voice c.args.flusher.now c.args.sink.now c.args.tally.now c.flush.new.self _ finds

pub returns-in_default-flushed-clause-ready : goal.returns-in_default-flushed-clause-ready
returns-in_default-flushed-clause-ready g c =
    let finds = subst (Flushes g.D.LogDisk c.args.flusher.now c.flush.new.self) c.in_default-flushed.is c.in-Ok.ensures.flushed in
    MayGoOn-found g.D.LogDisk c.args.flusher.now c.flush.new.self c.args.tally.now _ finds c.requires.ready c.in-Ok.ensures.ready

pub returns-in_default-flushed-clause-same : goal.returns-in_default-flushed-clause-same
returns-in_default-flushed-clause-same g c = c.flush.ensures.same

pub returns-in_default-flushed-clause-counted : goal.returns-in_default-flushed-clause-counted
returns-in_default-flushed-clause-counted g c = (returns-in_default-flushed-clause-ready g c).counted

pub returns-in-Ok-told-clause-made : goal.returns-in-Ok-told-clause-made
returns-in-Ok-told-clause-made g c =
    let sends = subst (Flushes g.D.LogDisk c.args.flusher.now c.flush.new.self) c.in-To.is c.in-Ok.ensures.flushed in
    SendsAndTells-told g.D.LogDisk g.K.Sink c.args.voice c.args.flusher.now c.args.sink.now c.args.tally.now
    c.flush.new.self c.tell-told.new.sink c.tell-told.new.tally c.in-To.from c.in-To.to sends c.in-Ok.ensures.cause.fine
    c.in-Ok-told.lines c.in-Ok-told.ensures.told c.in-Ok-told.ensures.cause.fine

pub returns-in-Ok-told-clause-ready : goal.returns-in-Ok-told-clause-ready
returns-in-Ok-told-clause-ready g c =
    let sends = subst (Flushes g.D.LogDisk c.args.flusher.now c.flush.new.self) c.in-To.is c.in-Ok.ensures.flushed in
    MayGoOn-sent g.D.LogDisk c.args.flusher.now c.flush.new.self c.args.tally.now c.tell-told.new.tally c.in-To.from c.in-To.to sends
    c.requires.ready c.in-Ok.ensures.ready c.tell-told.ensures.few

pub returns-in-Ok-told-clause-same : goal.returns-in-Ok-told-clause-same
returns-in-Ok-told-clause-same g c = c.flush.ensures.same

pub returns-in-Ok-told-clause-counted : goal.returns-in-Ok-told-clause-counted
returns-in-Ok-told-clause-counted g c = (returns-in-Ok-told-clause-ready g c).counted

pub returns-in-Err-clause-counted : goal.returns-in-Err-clause-counted
returns-in-Err-clause-counted g c =
    let sends = subst (Flushes g.D.LogDisk c.args.flusher.now c.flush.new.self) c.in-To.is c.in-Ok.ensures.flushed in
    let sent = Sends-counted_le_sent g.D.LogDisk c.args.flusher.now c.flush.new.self c.args.tally.now c.tell-told.new.tally c.in-To.from c.in-To.to
    sends c.requires.ready.counted c.tell-told.ensures.few in
    omega (arith, sent, sent-stop c.flush.new.self.seat c.tell_fault-in-Err.new.seat _ c.tell_fault-in-Err.ensures.stops)

pub returns-in-Err-clause-failed : goal.returns-in-Err-clause-failed
returns-in-Err-clause-failed g c =
    let sends = subst (Flushes g.D.LogDisk c.args.flusher.now c.flush.new.self) c.in-To.is c.in-Ok.ensures.flushed in
    rw c.tell_fault-in-Err.ensures.fault
    (CannotTell-stop g.D.LogDisk g.K.Sink c.args.voice c.args.flusher.now c.args.sink.now c.args.tally.now
    c.flush.new.self c.tell-told.new.sink c.tell-told.new.tally c.in-To.from c.in-To.to sends c.in-Ok.ensures.cause.fine
    _ c.in-Err.ensures.front c.in-Err.ensures.cause.failed record { seat = c.tell_fault-in-Err.ensures.stops; rest = (_, refl) })

pub returns-in-Err-clause-same : goal.returns-in-Err-clause-same
returns-in-Err-clause-same g c =
    IsSame-stop g.D.LogDisk c.args.flusher.now c.flush.new.self _ _ c.flush.ensures.same
    record { seat = c.tell_fault-in-Err.ensures.stops; rest = (_, refl) }
