use Rattle.std.proofs.Common.{rules, arith, ◌≡◌, ◌∙◌, ℕ, length, map, sym, subst}
use Rattle.std.proofs.lemmas.List.{length-map}
use mathlib.Core.Option.{some}
use lib.ListN.{get_elem?}
use Rattle.log_recovery.specs.Opened.{log_of}
use Rattle.log_rule.specs.declared.view.View.{View}
use Rattle.log_rule.specs.ClosedLog.{HasHeardOfWorkers, IsGathered, HasLedger}
use Rattle.log_rule.specs.Sound.{base_of}
use Rattle.log_table.specs.declared.table.Seat.{Seat}
use Rattle.log_table.specs.HiredWorkers.{KnowsHired}
use Rattle.log_table.specs.Seats.{IsOf, key_of, view_of}
use Rattle.job_queue.specs.Passes.{jobs_of, workers_of}
use Rattle.cli_threads.specs.Gathering.{share_of}
use Rattle.cli_threads.specs.Prepared.{HasTurned, IsEndOf, IsOver}
use Rattle.cli_threads.specs.Shares.{Share}
use Rattle.cli_threads.specs.Waiting.{HaveWaited, made_of}
use Rattle.cli_threads.proofs.TransferredLemmas.{HasTransferred-gathered, IsSomeAnd-both, share_of-worked_of, IsSomeAnd-weaken}
use Rattle.cli_threads.proofs.WaitedLemmas.{HaveWaited-all}
use Rattle.cli_threads.proofs.transfers.run_transfers.Goals as goal

pub run_crew-outside-requires-clause-crew : goal.run_crew-outside-requires-clause-crew
run_crew-outside-requires-clause-crew g c = λ κs within.
    let flags : length c.as_slice.result.now ≡ workers_of c.args.prepared.jobs = c.as_slice.ensures.len ∙ c.requires.prepared.flags in
    rw flags c.requires.prepared.crew

pub run_crew-outside-requires-clause-log : goal.run_crew-outside-requires-clause-log
run_crew-outside-requires-clause-log g c = λ κs within. let log = c.requires.opened.1 in record {
  stand = λ honest. (log_of c.requires.opened.0, log.stand honest);
  shut = log.shut;
  next = log.next ∙ sym log.start;
  place = log.place;
}

pub close-requires : goal.close-requires
close-requires g c = record {
  served = IsSomeAnd-weaken (HasTurned g.D.LogDisk g.K.Sink c.args.prepared.table c.args.prepared.jobs.queue (length c.as_slice.result.now) c.args.wait c.args.tail
      c.args.voice c.args.prepared.crew.flusher_seat c.args.disk.now c.run_crew-outside.result.disk.now c.args.out.now c.run_crew-outside.result.out.now)
      (IsOver c.args.prepared.table) _ c.run_crew-outside.ensures.turned (λ served turned. record {
        seat = subst (IsOf c.args.prepared.table) (sym turned.rest.flusher_seat) turned.crew.seat;
        over = turned.rest.over;
      });
}

pub returns : goal.returns
returns g c =
    let prepared = c.args.prepared in
    let key = key_of prepared.table in
    let queue = prepared.jobs.queue in
    let came = IsSomeAnd-both
    (HasTurned g.D.LogDisk g.K.Sink prepared.table queue (length c.as_slice.result.now) c.args.wait c.args.tail c.args.voice prepared.crew.flusher_seat
    c.args.disk.now c.run_crew-outside.result.disk.now c.args.out.now c.run_crew-outside.result.out.now) (IsEndOf prepared.table c.close.result)
    c.run_crew-outside.new.served c.run_crew-outside.ensures.turned c.close.ensures in
    let turned = came.1 in
    let over = came.2 in
    let served = turned.crew in
    let flags = c.as_slice.ensures.len ∙ c.requires.prepared.flags in
    let count : length served.workers ≡ workers_of prepared.jobs = served.count ∙ flags in
    let knows = subst (λ n. KnowsHired key n (view_of prepared.crew.flusher_seat)) (sym count) c.requires.prepared.crew.flusher_seat.knows in
    let view = view_of turned.left.flusher.seat in
    record {
      ended = λ opened log. record {
        front = served.front.front;
        shares = map share_of served.workers;
        count = length-map served.workers share_of ∙ count;
        first = turned.first;
        last = served.last;
        view = view;
        transferred = HasTransferred-gathered g.D.LogDisk g.K.Sink turned.first served.last turned.begun served.later key prepared.table queue c.args.wait
            served.workers knows opened log served.done (omega (arith, count, c.requires.prepared.enlisted.someone)) served.front served.stops
            served.drained view served.view served.seat.ring served.seat.slots c.close.result.closed.tail c.close.result.closed.accounts.rows
            (subst (λ (s : Seat). IsGathered c.close.result.closed.tail (view_of s)) turned.rest.flusher_seat over.gathered)
            (subst (λ (s : Seat). HasLedger (base_of key) (view_of s) c.close.result.closed.accounts.rows) turned.rest.flusher_seat over.accounts)
            (subst (λ (s : Seat). HasHeardOfWorkers (view_of s)) turned.rest.flusher_seat over.heard);
        ends = share_of-worked_of served.workers ∙ sym served.ends_are ∙ sym turned.rest.ends_are ∙ over.ends_are;
        waited = λ waits. subst (λ (v : View). (worker : ℕ) (share : Share) → get_elem? (map share_of served.workers) worker ≡ some share
            → HaveWaited (jobs_of queue) (made_of share.taken share.worked) v.entries v.books.given) (sym served.view)
            (HaveWaited-all prepared.table queue c.args.wait 0 served.workers served.done (view_of served.last.flusher.seat) waits);
        fault = served.fault_is ∙ turned.rest.fault ∙ over.fault;
        none_counted = turned.begun.none_counted;
        done_is = served.done_is ∙ turned.rest.done ∙ over.done;
        refused_is = served.refused_is ∙ turned.rest.refused ∙ over.refused;
        speaks = turned.begun.speaks;
        tail_is = turned.begun.tail_is;
        disk_old = turned.begun.disk_is;
        disk_is = served.disk_is ∙ turned.disk_is ∙ search rules;
        sink_old = turned.begun.sink_is;
        sink_is = served.sink_is ∙ turned.sink_is ∙ search rules;
      };
    }
