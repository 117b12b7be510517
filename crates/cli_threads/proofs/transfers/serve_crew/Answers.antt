use Rattle.std.proofs.Common.{rules, arith, length, ◌∙◌, map, sym, ap}
use mathlib.Core.Logic.{∥∥₁_map}
use Rattle.log_rule.specs.declared.view.Sending.{Sending}
use Rattle.log_rule.specs.declared.view.View.{View}
use Rattle.log_table.specs.Seats.{view_of}
use Rattle.flusher.proofs.Keeps.{KeepsLog-same}
use Rattle.commit_pipeline.proofs.ToldSoFar.{HasTold-step}
use Rattle.cli_threads.specs.Gathering.{all_marks, all_places, view_in}
use Rattle.cli_threads.proofs.TakenPlaces.{places_back-are_front}
use Rattle.cli_threads.proofs.TransferredLemmas.{AreDone-same, HasLeft-all, takes_all-constants, takes_all-sending}
use Rattle.cli_threads.proofs.transfers.serve_crew.Goals as goal

pub serve_all-relief-requires-clause-hands : goal.serve_all-relief-requires-clause-hands
serve_all-relief-requires-clause-hands g c = λ κs within.
    let hands = c.requires.hands in
    let queue = c.make-run.ensures.queue ∙ c.queue-queue.ensures in record {
      start = record {
        workers = rw (c.make-run.ensures.table, queue) hands.workers;
        flags = omega (arith, ap length c.make-run.ensures.refused, hands.count);
        none = hands.room.none.0;
        room = omega (arith, hands.room.started, hands.count);
      };
      none = hands.room.none.1;
      room = omega (arith, hands.room.back, hands.count);
      ready = λ fine. c.requires.ready;
    }

pub serve_all-relief-requires-clause-told : goal.serve_all-relief-requires-clause-told
serve_all-relief-requires-clause-told g c = λ κs within. c.requires.flusher_seat.knows.told

pub gather-worked-requires-clause-workers : goal.gather-worked-requires-clause-workers
gather-worked-requires-clause-workers g c =
    let workers = c.serve_all-relief.result.1 in
    let done = AreDone-same workers.items c.make-run.ensures.table (c.make-run.ensures.queue ∙ c.queue-queue.ensures) c.make-run.ensures.wait
    c.serve_all-relief.ensures.served.done in
    HasLeft-all c.args.table.now c.args.jobs.now.queue c.args.wait 0 workers.items done

pub count_taken-requires-clause-out : goal.count_taken-requires-clause-out
count_taken-requires-clause-out g c = omega (
  arith,
  c.gather-worked.ensures.out,
  c.requires.jobs.enlisted.out,
  c.requires.jobs.flags,
  c.serve_all-relief.ensures.served.count,
  c.requires.hands.count,
)

pub invariant_of-flusher : goal.invariant_of-flusher
invariant_of-flusher g c =
    let last = c.serve_all-relief.result.0.now.daemon in
    let others = map view_in c.serve_all-relief.result.1.items in
    let sending = ap (λ (v : View). v.sending) c.gather-worked.ensures.view ∙ takes_all-sending (view_of last.flusher.seat) others in
    record {
      keeps = λ honest. ∥∥₁_map (last.flusher.keeps honest) (λ keeps.
          KeepsLog-same g.D.LogDisk _ _ _ _ _ keeps _ _ (ap (λ (s : Sending). s.sent) sending) (ap (λ (s : Sending). s.read) sending));
    }

pub invariant_of-daemon : goal.invariant_of-daemon
invariant_of-daemon g c =
    let last = c.serve_all-relief.result.0.now.daemon in
    let others = map view_in c.serve_all-relief.result.1.items in
    let view = c.gather-worked.ensures.view in
    let constants = ap (λ (v : View). v.constants) view ∙ takes_all-constants (view_of last.flusher.seat) others in
    let sending = ap (λ (v : View). v.sending) view ∙ takes_all-sending (view_of last.flusher.seat) others in
    record {
      told = ∥∥₁_map last.told (λ told. HasTold-step g.K.Sink last.first.value last.voice (view_of last.begun.value) last.sink.now
          (view_of last.flusher.seat) (view_of c.gather-worked.new.flusher_seat) constants told (ap (λ (s : Sending). s.sent) sending));
    }

pub returns-clause-turned : goal.returns-clause-turned
returns-clause-turned g c =
    let workers = c.serve_all-relief.result.1 in
    let done = AreDone-same workers.items c.make-run.ensures.table (c.make-run.ensures.queue ∙ c.queue-queue.ensures) c.make-run.ensures.wait
    c.serve_all-relief.ensures.served.done in
    let gathered = c.gather-worked.ensures in
    let counted = c.count_taken.ensures in
    record {
      last = c.serve_all-relief.result.0.now.daemon;
      workers = workers.items;
      later = c.serve_all-relief.ensures.served.later;
      done = done;
      count = sym workers.ok.0 ∙ (c.serve_all-relief.ensures.served.count ∙ c.requires.hands.count);
      front = places_back-are_front c.args.jobs.now c.gather-worked.new.jobs c.count_taken.new.self (all_places workers.items) (all_marks workers.items)
          c.requires.jobs.enlisted.none_back gathered.same gathered.places gathered.marks counted.jobs counted.same counted.back counted.taken;
      stops = gathered.stops;
      drained = c.serve_all-relief.ensures.served.drained;
      seat = search rules;
      view = search rules;
      ends_are = gathered.ends;
      fault_is = search rules;
      done_is = search rules;
      refused_is = search rules;
      disk_is = search rules;
      sink_is = search rules;
    }
