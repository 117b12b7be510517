use Rattle.std.proofs.Common.{rules, ◌≡◌, sym, subst}
use Rattle.log_rule.specs.declared.view.View.{View}
use Rattle.log_table.specs.declared.table.Seat.{Seat}
use Rattle.log_table.specs.Seats.{view_of}
use Rattle.ring_buffer.specs.Calls.{IsReady, IsSameWorker}
use Rattle.ring_buffer.proofs.SameWorkers.{IsOf-same}
use Rattle.txn_parts.specs.Desk.{view_at}
use Rattle.txn_runner.specs.Working.{HasDone}
use Rattle.txn_runner.proofs.worker.work.Goals as goal
use Rattle.txn_runner.proofs.worker.work.Goals.{After-work_at}

pub work_at-requires : goal.work_at-requires
work_at-requires g c = let worker = c.requires.worker in record {
  work = record { seat = worker.seat; ready = worker.ready; relief = worker.relief };
  may = c.requires.may;
}

-- what the desk lent comes back: the seat and the relief are those that it had at last
module _ (g : _) (c : After-work_at g) where
  same-worker : (seat : Seat) → seat ≡ c.work_at.new.desk.seat.now → IsSameWorker c.args.seat.now seat
  same-worker seat is = subst (IsSameWorker c.args.seat.now) (sym is) c.work_at.ensures.work.same

  still-ready : (view : View) → view ≡ view_at c.work_at.new.desk → IsReady view
  still-ready view is = subst IsReady (sym is) c.work_at.ensures.work.at_work.ready

  done-so : (view : View) → view ≡ view_at c.work_at.new.desk
      → HasDone c.args.queue.now c.args.wait c.work_at.result c.args.rows.now c.work_at.new.rows (view_of c.args.seat.now) view
  done-so view is = subst (HasDone c.args.queue.now c.args.wait c.work_at.result c.args.rows.now c.work_at.new.rows
      (view_of c.args.seat.now)) (sym is) c.work_at.ensures.done

  rested : (relief : g.row.Q.Denot) → relief ≡ c.work_at.new.desk.relief.now
      → g.Q.Relief.ready relief × g.Q.Relief.later c.args.relief.now relief
  rested relief is = subst (λ relief. g.Q.Relief.ready relief × g.Q.Relief.later c.args.relief.now relief) (sym is)
      (c.work_at.ensures.work.at_work.relief, c.work_at.ensures.work.later)

pub returns-clause-worker : goal.returns-clause-worker
returns-clause-worker g c = let after = (goal.at.returns-clause-worker g c).After-work_at in record {
  seat = IsOf-same _ _ _ c.requires.worker.seat (same-worker g after _ (search rules));
  ready = still-ready g after _ (search rules);
  relief = (rested g after _ (search rules)).0;
}

pub returns-clause-same : goal.returns-clause-same
returns-clause-same g c = same-worker g (goal.at.returns-clause-same g c).After-work_at _ (search rules)

pub returns-clause-later : goal.returns-clause-later
returns-clause-later g c = (rested g (goal.at.returns-clause-later g c).After-work_at _ (search rules)).1

pub returns-clause-done : goal.returns-clause-done
returns-clause-done g c = done-so g (goal.at.returns-clause-done g c).After-work_at _ (search rules)
