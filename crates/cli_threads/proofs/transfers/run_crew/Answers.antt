use Rattle.std.proofs.Common.{rules, ◌≡◌, length, sym, subst, IsSomeAnd}
use Rattle.cli_workers.specs.declared.relief.FlushingRelief.{FlushingRelief}
use Rattle.log_rule.specs.May.{MayClose}
use Rattle.log_table.specs.HiredWorkers.{HasHired, KnowsHired}
use Rattle.log_table.specs.Seats.{key_of, view_of}
use Rattle.cli_threads.specs.Prepared.{HasTurned, IsLeftOf, MayBeTakenApart}
use Rattle.cli_threads.proofs.TransferredLemmas.{MayClose-gathered, IsSomeAnd-weaken}
use Rattle.cli_threads.proofs.transfers.run_crew.Goals as goal

pub relief_of-relief-requires-clause-seat : goal.relief_of-relief-requires-clause-seat
relief_of-relief-requires-clause-seat g c = (length c.args.refused.now, c.requires.crew.flusher_seat)

pub serve_crew-relief-requires-clause-flusher_seat : goal.serve_crew-relief-requires-clause-flusher_seat
serve_crew-relief-requires-clause-flusher_seat g c = λ κs within. subst (HasHired c.args.table.now (length c.args.refused.now))
    (sym c.relief_of-relief.ensures.begun.seat_is) c.requires.crew.flusher_seat

pub take_apart-requires : goal.take_apart-requires
take_apart-requires g c =
    let served = rw c.in-Some.is at c.serve_crew-relief.ensures.turned in
    let closed : MayClose (view_of c.serve_crew-relief.result.now.daemon.flusher.seat) =
    MayClose-gathered g.D.LogDisk g.K.Sink _ _ c.relief_of-relief.ensures.begun served.later (key_of c.args.table.now) c.args.table.now
    c.args.jobs.now.queue c.args.wait served.workers
    (subst (λ n. KnowsHired (key_of c.args.table.now) n (view_of c.args.crew.flusher_seat)) (sym served.count) c.requires.crew.flusher_seat.knows)
    served.done _ served.view in
    let may : (relief : FlushingRelief g.row.D.Denot g.row.K.Denot g.D.LogDisk g.K.Sink) → relief ≡ c.serve_crew-relief.result.now
    → MayBeTakenApart relief =
    λ relief same. subst (λ (r : FlushingRelief g.row.D.Denot g.row.K.Denot g.D.LogDisk g.K.Sink). MayBeTakenApart r) (sym same) (record { over = closed }) in
    record { over = may _ (search rules) }

pub returns-clause-turned : goal.returns-clause-turned
returns-clause-turned g c =
    let served = rw c.in-Some.is at c.serve_crew-relief.ensures.turned in
    let turned : (relief : FlushingRelief g.row.D.Denot g.row.K.Denot g.D.LogDisk g.K.Sink)
    → IsSomeAnd c.take_apart.new.served (IsLeftOf g.D.LogDisk g.K.Sink relief.daemon c.in-Some.ends.items)
    → c.take_apart.result.disk ≡ relief.daemon.flusher.disk → c.take_apart.result.out ≡ relief.daemon.sink
    → relief ≡ c.serve_crew-relief.result.now
    → IsSomeAnd c.take_apart.new.served (HasTurned g.D.LogDisk g.K.Sink c.args.table.now c.args.jobs.now.queue (length c.args.refused.now)
    c.args.wait c.args.tail c.args.voice c.args.crew.flusher_seat c.args.outside.disk.now c.take_apart.result.disk.now c.args.outside.out.now
    c.take_apart.result.out.now) =
    λ relief left disk out same. IsSomeAnd-weaken (IsLeftOf g.D.LogDisk g.K.Sink relief.daemon c.in-Some.ends.items)
    (HasTurned g.D.LogDisk g.K.Sink c.args.table.now c.args.jobs.now.queue (length c.args.refused.now) c.args.wait c.args.tail c.args.voice
    c.args.crew.flusher_seat c.args.outside.disk.now c.take_apart.result.disk.now c.args.outside.out.now c.take_apart.result.out.now)
    c.take_apart.new.served left (λ place is_left. record {
      first = c.relief_of-relief.result.daemon;
      left = c.serve_crew-relief.result.now.daemon;
      ends = c.in-Some.ends.items;
      begun = c.relief_of-relief.ensures.begun;
      crew = served;
      rest = subst (λ (r : FlushingRelief g.row.D.Denot g.row.K.Denot g.D.LogDisk g.K.Sink).
          IsLeftOf g.D.LogDisk g.K.Sink r.daemon c.in-Some.ends.items place) same is_left;
      disk_is = search rules;
      sink_is = search rules;
    }) in
    turned _ c.take_apart.ensures.served c.take_apart.ensures.disk c.take_apart.ensures.out (search rules)
