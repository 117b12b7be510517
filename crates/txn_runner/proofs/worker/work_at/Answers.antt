use Rattle.std.proofs.Common.{◌≡◌, ◌∙◌, [], ◌∷◌, ◌++◌, length, All, IsSomeAnd, Some, None, sym, ap, subst, arith}
use Rattle.log_table.specs.Seats.{view_of}
use Rattle.txn_jobs.specs.Rows.{IsTold}
use Rattle.job_queue.specs.declared.rows.Rows.{Rows}
use Rattle.job_queue.specs.Passes.{HasPassOf, IsWorkersPass, marks_by, places_by}
use Rattle.lock_core.specs.Transfers.{IsAllowedJob}
use Rattle.txn_parts.specs.Desk.{WorksOn, view_at}
use Rattle.txn_parts.proofs.DeskLemmas.{WorksOn-accounts, WorksOn-none, WorksOn-trans}
use Rattle.txn_runner.specs.Stages.{LetsGo}
use Rattle.txn_jobs.specs.declared.cause.Worked.TheVariants as worked
use Rattle.txn_runner.specs.Working.{HasDone, jobs_of, places_in, rows_in, room_of}
use Rattle.txn_runner.proofs.PlaceLemmas.{HasRoomForRows-push, HasRoomForRows-room_left, places_in-fewer_left}
use Rattle.txn_runner.proofs.ProgressLemmas.{Progress, Progress-none, Progress-rows, Progress-told, Stopped, Stopped-told, EndsByMark-told, IsTold-one_row_at_most}
use Rattle.txn_runner.proofs.StageLemmas.{IsTaken-lets_go, HasRunTaken-has_run, HasCutTaken-has_cut}
use Rattle.txn_runner.proofs.WorkLemmas.{IsNextJob, IsNextJob-taken}
use Rattle.txn_runner.proofs.worker.work_at.Goals as goal
use Rattle.txn_runner.proofs.worker.work_at.Goals.{After-run_job-made, In-Some, In-Some-tell}

pub jobs-init : goal.jobs-init
jobs-init g c = let may = c.requires.may.next in record {
  works = WorksOn-none g.Q.Relief g.met.Q.Relief.later_refl c.args.desk.now c.requires.work;
  none_held = may.none_held;
  pass = may.pass;
  mark = may.mark;
  room = c.requires.may.room;
  progress = Progress-none _ _ c.args.wait _ _ may.worked;
}

pub begin_job-requires-clause-work : goal.begin_job-requires-clause-work
begin_job-requires-clause-work g c = c.jobs.invariant.works.at_work

pub begin_job-requires-clause-may : goal.begin_job-requires-clause-may
begin_job-requires-clause-may g c = let i = c.jobs.invariant in record {
  none_held = i.none_held;
  allowed = WorksOn-accounts g.Q.Relief _ _ i.works (λ accounts. All (IsAllowedJob accounts) c.args.queue.now.script) c.requires.may.next.allowed;
  pass = i.pass;
  mark = i.mark;
  worked = i.progress.worked;
}

pub tell-requires : goal.tell-requires
tell-requires g c = record {
  room = HasRoomForRows-room_left c.args.queue.now _ _ c.jobs.rows c.begin_job.new.rows c.in-Some.ensures.taken.place
      c.jobs.invariant.progress.worked.rising c.jobs.invariant.room c.begin_job.ensures.rows;
}

-- the place that was taken
next-is : (g : _) (c : In-Some g) → IsNextJob (jobs_of c.args.queue.now) (places_in c.jobs.rows) c.in-Some.ensures.taken.place.place
    c.begin_job.new.numbered.number c.begin_job.new.numbered.job
next-is g c = IsNextJob-taken c.args.queue.now c.begin_job.new.numbered.number c.begin_job.new.numbered.job
    c.jobs.rows c.begin_job.new.rows c.in-Some.ensures.taken.place

-- the rows have the pass that took it still
places-now : (g : _) (c : In-Some g) (rows : Rows) → rows.pass ≡ c.begin_job.new.rows.pass
    → places_in rows ≡ places_in c.jobs.rows ++ c.in-Some.ensures.taken.place.place ∷ []
places-now g c rows same = ap places_by same ∙ c.in-Some.ensures.taken.place.places

still-pass : (g : _) (c : In-Some g) (rows : Rows) → rows.pass ≡ c.begin_job.new.rows.pass → HasPassOf c.args.queue.now rows
still-pass g c rows same = subst (λ pass. IsSomeAnd pass (IsWorkersPass c.args.queue.now)) (sym same) c.begin_job.ensures.pass

-- what was made of the transfer since it was taken, and before
gone : (g : _) (c : After-run_job-made g) → LetsGo c.jobs.desk.seat.now c.run_job-made.new.desk.seat.now
gone g c = IsTaken-lets_go c.begin_job.new.numbered.number c.begin_job.new.numbered.job c.jobs.desk.seat.now
    c.begin_job.new.desk.seat.now c.run_job-made.new.desk.seat.now c.in-Some.ensures.taken.as_job c.run_job-made.ensures.made.let_go

works : (g : _) (c : After-run_job-made g) → WorksOn g.Q.Relief c.args.desk.now c.run_job-made.new.desk
works g c = WorksOn-trans g.Q.Relief g.met.Q.Relief.later_trans _ _ _
    (WorksOn-trans g.Q.Relief g.met.Q.Relief.later_trans _ _ _ c.jobs.invariant.works c.begin_job.ensures.work) c.run_job-made.ensures.work

pub jobs-preserved : goal.jobs-preserved
jobs-preserved g c =
    let in-some = (goal.at.jobs-preserved g c).In-Some in
    let made = gone g (goal.at.jobs-preserved g c).After-run_job-made in
    let told : IsTold c.run_job-made.result None (rows_in c.jobs.rows) (rows_in c.tell.new.self) =
    subst (λ rows. IsTold c.run_job-made.result None rows (rows_in c.tell.new.self)) c.begin_job.ensures.rows.rows c.in_default-tell.ensures.told in
    let places = places-now g in-some c.tell.new.self c.tell.ensures.pass in
    let room : room_of c.tell.new.self ≡ room_of c.jobs.rows = c.tell.ensures.room ∙ c.begin_job.ensures.rows.room in record {
      works = works g (goal.at.jobs-preserved g c).After-run_job-made;
      none_held = made.none_held;
      pass = still-pass g in-some c.tell.new.self c.tell.ensures.pass;
      mark = ap marks_by c.tell.ensures.pass ∙ c.in-Some.ensures.taken.place.marks;
      room = HasRoomForRows-push (jobs_of c.args.queue.now) c.jobs.rows c.tell.new.self c.in-Some.ensures.taken.place.place c.jobs.invariant.room places
          (IsTold-one_row_at_most c.run_job-made.result None (rows_in c.jobs.rows) (rows_in c.tell.new.self) told) room;
      progress = subst (λ taken. Progress (jobs_of c.args.queue.now) (places_in c.args.rows.now) taken c.args.wait c.args.rows.now
          c.tell.new.self (view_at c.args.desk.now) (view_at c.run_job-made.new.desk)) (sym places)
          (Progress-told (jobs_of c.args.queue.now) _ _ _ c.args.wait c.args.rows.now c.jobs.rows c.tell.new.self
          (view_at c.args.desk.now) (view_at c.jobs.desk) (view_at c.run_job-made.new.desk) c.jobs.invariant.progress
          c.begin_job.new.numbered.number c.begin_job.new.numbered.job (next-is g in-some)
          record { tail = c.jobs.invariant.works.same.grows; durable = c.jobs.invariant.works.same.durable }
          record { tail = made.same.grows; durable = made.same.durable } made.given room c.run_job-made.result None told
          (HasRunTaken-has_run c.begin_job.new.numbered.number c.begin_job.new.numbered.job c.jobs.desk.seat.now
          c.begin_job.new.desk.seat.now c.run_job-made.new.desk.seat.now
          c.in-Some.ensures.taken.as_job c.args.wait c.run_job-made.result c.run_job-made.ensures.made.run));
    }

pub jobs-smaller : goal.jobs-smaller
jobs-smaller g c = places_in-fewer_left c.args.queue.now _ _ c.jobs.rows c.begin_job.new.rows c.in-Some.ensures.taken.place
    c.jobs.invariant.progress.worked.rising c.tell.new.self (places-now g (goal.at.jobs-smaller g c).In-Some c.tell.new.self c.tell.ensures.pass)

-- the transfer that was cut off
stopped : (g : _) (c : In-Some-tell g) → Stopped (jobs_of c.args.queue.now) (places_in c.args.rows.now)
    (places_in c.tell.new.self) c.args.wait c.args.rows.now c.tell.new.self
    (view_at c.args.desk.now) (view_at c.run_job-made.new.desk) c.in-Some-tell.worked
stopped g c =
    let in-some = (goal.at.returns-in-Some-tell-clause-done g c).In-Some in
    let made = gone g (goal.at.returns-in-Some-tell-clause-done g c).After-run_job-made in
    subst (λ taken. Stopped (jobs_of c.args.queue.now) (places_in c.args.rows.now) taken c.args.wait c.args.rows.now
    c.tell.new.self (view_at c.args.desk.now) (view_at c.run_job-made.new.desk) c.in-Some-tell.worked)
    (sym (places-now g in-some c.tell.new.self c.tell.ensures.pass))
    (Stopped-told (jobs_of c.args.queue.now) _ _ _ c.args.wait c.args.rows.now c.jobs.rows c.tell.new.self
    (view_at c.args.desk.now) (view_at c.jobs.desk) (view_at c.run_job-made.new.desk) c.jobs.invariant.progress
    c.begin_job.new.numbered.number c.begin_job.new.numbered.job (next-is g in-some)
    record { tail = c.jobs.invariant.works.same.grows; durable = c.jobs.invariant.works.same.durable }
    record { tail = made.same.grows; durable = made.same.durable } made.given
    (c.tell.ensures.room ∙ c.begin_job.ensures.rows.room) c.run_job-made.result (Some c.in-Some-tell.worked)
    (subst (λ rows. IsTold c.run_job-made.result (Some c.in-Some-tell.worked) rows (rows_in c.tell.new.self)) c.begin_job.ensures.rows.rows
    c.in-Some-tell.ensures.told)
    (HasCutTaken-has_cut c.begin_job.new.numbered.number c.begin_job.new.numbered.job c.jobs.desk.seat.now
    c.begin_job.new.desk.seat.now c.run_job-made.new.desk.seat.now
    c.in-Some.ensures.taken.as_job c.args.wait c.run_job-made.result c.run_job-made.ensures.made.cut))

pub returns-in-Some-tell-clause-work : goal.returns-in-Some-tell-clause-work
returns-in-Some-tell-clause-work g c = works g (goal.at.returns-in-Some-tell-clause-work g c).After-run_job-made

pub returns-in-Some-tell-clause-done : goal.returns-in-Some-tell-clause-done
returns-in-Some-tell-clause-done g c =
    let at = goal.at.returns-in-Some-tell-clause-done g c in
    let stop = stopped g at.In-Some-tell in record {
      none_held = (gone g at.After-run_job-made).none_held;
      pass = still-pass g at.In-Some c.tell.new.self c.tell.ensures.pass;
      worked = stop.worked;
      kept = stop.kept;
      given = stop.given;
      jobs = stop.takes;
      works = stop.works;
      all = EndsByMark-told c.run_job-made.result c.in-Some-tell.worked c.tell.new.self _ _ c.in-Some-tell.ensures.told
          (ap marks_by c.tell.ensures.pass ∙ c.in-Some.ensures.taken.place.marks);
      rows = stop.adds;
    }

pub returns-clause-work : goal.returns-clause-work
returns-clause-work g c = WorksOn-trans g.Q.Relief g.met.Q.Relief.later_trans _ _ _ c.jobs.invariant.works c.begin_job.ensures.work

-- the pass took its mark, and no place
pub returns-clause-done : goal.returns-clause-done
returns-clause-done g c =
    let none = c.in_default.ensures.none in
    let progress = subst (λ taken. Progress (jobs_of c.args.queue.now) (places_in c.args.rows.now) taken c.args.wait c.args.rows.now
    c.begin_job.new.rows (view_at c.args.desk.now) (view_at c.jobs.desk)) (sym none.mark.places)
    (Progress-rows (jobs_of c.args.queue.now) _ _ c.args.wait c.args.rows.now c.jobs.rows c.begin_job.new.rows _ _ c.begin_job.ensures.rows
    c.jobs.invariant.progress) in
    subst (HasDone c.args.queue.now c.args.wait worked.All c.args.rows.now c.begin_job.new.rows (view_at c.args.desk.now))
    (sym (ap view_of none.seat_is)) record {
      none_held = c.jobs.invariant.none_held;
      pass = c.begin_job.ensures.pass;
      worked = progress.worked;
      kept = progress.kept;
      given = progress.given;
      jobs = progress.takes;
      works = progress.works;
      all = omega (arith, ap length none.mark.marks);
      rows = progress.adds;
    }
