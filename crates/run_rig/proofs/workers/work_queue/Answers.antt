use Rattle.std.proofs.Common.{ap, subst, sym}
use Rattle.log_table.specs.Seats.{view_of}
use Rattle.log_rule.specs.declared.view.Books.{Books}
use Rattle.txn_runner.specs.Working.{HasWorked, Works, jobs_of, places_in}
use Rattle.txn_runner.proofs.ProgressLemmas.{jobs-from_none}
use Rattle.txn_runner.proofs.WorkLemmas.{HasWorked-none}
use Rattle.run_rig.proofs.workers.work_queue.Goals as goal

pub work-requires-clause-worker : goal.work-requires-clause-worker
work-requires-clause-worker g c =
    record { seat = c.requires.unused.own; ready = c.requires.unused.ready; relief = c.requires.relief }

pub work-requires-clause-may : goal.work-requires-clause-may
work-requires-clause-may g c = record {
  next = record {
    none_held = ap (λ (books : Books). books.held) c.requires.unused.books;
    allowed = c.requires.allowed;
    pass = c.requires.rows.pass;
    mark = c.requires.rows.marks;
    worked = subst (λ places. HasWorked (jobs_of c.args.queue.now) places (view_of c.args.seat.now)) (sym c.requires.rows.places)
        (HasWorked-none (jobs_of c.args.queue.now) (view_of c.args.seat.now) c.requires.unused.entries
        (ap (λ (books : Books). books.jobs) c.requires.unused.books));
  };
  room = c.requires.rows.room;
}

pub returns : goal.returns
returns g c =
    let made = jobs_of c.args.queue.now in
    let view = view_of c.work.new.seat in
    let places = c.requires.rows.places in
    let none_taken = ap (λ (books : Books). books.jobs) c.requires.unused.books in
    record {
      seat = c.work.ensures.worker.seat;
      ready = c.work.ensures.worker.ready;
      none_held = c.work.ensures.done.none_held;
      standing = c.work.ensures.same.standing;
      pass = c.work.ensures.done.pass;
      jobs = jobs-from_none made _ _ (view_of c.args.seat.now) view places none_taken c.work.ensures.done.jobs;
      places = c.work.ensures.done.worked.places;
      works = subst (λ before. Works made before (places_in c.work.new.rows) c.args.wait c.work.result view) places c.work.ensures.done.works;
      all = c.work.ensures.done.all;
      relief = c.work.ensures.worker.relief;
    }
