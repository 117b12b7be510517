use Rattle.std.proofs.Common.{ap, refl}
use Rattle.job_queue.specs.Passes.{places_in}
use Rattle.log_rule.specs.May.{MayTakeJob}
use Rattle.log_rule.specs.declared.view.Books.{Books}
use Rattle.txn_parts.specs.Desk.{view_at, accounts_at}
use Rattle.txn_parts.proofs.DeskLemmas.{IsReady-same}
use Rattle.ring_buffer.proofs.SameWorkers.{IsOf-same}
use Rattle.txn_runner.proofs.StageLemmas.{IsTaken, took_job-is_taken, IsTaken-has_next_job}
use Rattle.txn_runner.proofs.WorkLemmas.{IsNextJob-taken, MayTakeJob-next}
use Rattle.txn_runner.proofs.taking.begin_job.Goals as goal
use Rattle.txn_runner.proofs.taking.begin_job.Goals.{In-Some, After-take_job-stop}

-- the seat may take the transfer at the place that was taken
may-take : (g : _) (c : In-Some g) → MayTakeJob (accounts_at c.args.desk.now) c.in-Some.number c.take_next.new.job (view_at c.args.desk.now)
may-take g c = MayTakeJob-next c.args.queue.now (places_in c.args.rows.now) c.in-Some.ensures.place.place c.in-Some.number
    c.take_next.new.job (IsNextJob-taken c.args.queue.now c.in-Some.number c.take_next.new.job c.args.rows.now c.take_next.new.rows c.in-Some.ensures.place)
    (accounts_at c.args.desk.now) (view_at c.args.desk.now) c.requires.work.ready c.requires.may.none_held c.requires.may.allowed
    c.requires.may.worked

pub take_job-stop-requires-clause-may : goal.take_job-stop-requires-clause-may
take_job-stop-requires-clause-may g c = may-take g (goal.at.take_job-stop-requires-clause-may g c).In-Some

taken : (g : _) (c : After-take_job-stop g) → IsTaken c.in-Some.number c.take_next.new.job c.args.desk.now.seat.now c.take_job-stop.new.seat
taken g c = took_job-is_taken c.in-Some.number c.take_next.new.job c.args.desk.now.seat.now c.take_job-stop.new.seat c.take_job-stop.result
    c.requires.work.ready c.take_job-stop.ensures.view

pub returns-clause-work : goal.returns-clause-work
returns-clause-work g c = let t = taken g (goal.at.returns-clause-work g c).After-take_job-stop in record {
  table = refl {a = c.args.desk.now.table};
  seat = refl {a = c.args.desk.now.seat.ghost_name};
  relief = refl {a = c.args.desk.now.relief.ghost_name};
  at_work = record {
    seat = IsOf-same _ _ _ c.requires.work.seat t.same;
    ready = IsReady-same _ _ c.requires.work.ready t.same t.idle t.contended (ap (λ (books : Books). books.half) t.books_are);
    relief = c.rest_between.ensures.ready;
  };
  same = t.same;
  later = c.rest_between.ensures.later;
}

pub returns-clause-taken : goal.returns-clause-taken
returns-clause-taken g c =
    record { place = c.in-Some.ensures.place; as_job = taken g (goal.at.returns-clause-taken g c).After-take_job-stop }

pub returns-clause-begun : goal.returns-clause-begun
returns-clause-begun g c = record {
  next = IsTaken-has_next_job c.in-Some.number c.take_next.new.job c.args.desk.now.seat.now c.take_job-stop.new.seat (accounts_at c.args.desk.now)
      (may-take g (goal.at.returns-clause-begun g c).In-Some) (taken g (goal.at.returns-clause-begun g c).After-take_job-stop);
  stop_is = ap (λ m. m.0.seen.stop) c.take_job-stop.ensures.view.me;
}
