use Rattle.std.proofs.Common.{rules, ◌≡◌, ◌∙◌, [], ap, sym, subst}
use Rattle.log_rule.specs.declared.view.Books.{Books}
use Rattle.log_rule.specs.declared.view.View.{View}
use Rattle.log_table.specs.Seats.{view_of}
use Rattle.txn_runner.specs.Working.{HasWorked, jobs_of, places_in}
use Rattle.txn_runner.proofs.WorkLemmas.{HasWorked-none}
use Rattle.cli_threads.specs.Waiting.{HaveWaited, made_of}
use Rattle.cli_threads.proofs.WaitedLemmas.{HaveWaited-worked}
use Rattle.cli_threads.proofs.ServedLemmas.{HasDone, HasDone-left, IsOf-left, left-role_ended, left-view_retired}
use Rattle.cli_threads.proofs.serving.serve.Goals as goal

pub work-worked-requires-clause-worker : goal.work-worked-requires-clause-worker
work-worked-requires-clause-worker g c =
    record { seat = c.requires.hired.seat; ready = c.requires.hired.ready; relief = c.requires.relief }

pub work-worked-requires-clause-may : goal.work-worked-requires-clause-may
work-worked-requires-clause-may g c =
    let hired = c.requires.hired in
    let jobs = jobs_of c.args.run.now.queue.now in record {
      next = record {
        none_held = ap (λ (books : Books). books.held) hired.books;
        allowed = c.args.run.now.allowed;
        pass = hired.pass;
        mark = hired.fresh.1;
        worked = subst (λ places. HasWorked jobs places (view_of c.args.worker.seat)) (sym hired.fresh.0)
            (HasWorked-none jobs (view_of c.args.worker.seat) hired.entries (ap (λ (books : Books). books.jobs) hired.books));
      };
      room = hired.room;
    }

pub returns : goal.returns
returns g c =
    let hired = c.requires.hired in
    let did = c.work-worked.ensures.done in
    let jobs = jobs_of c.args.run.now.queue.now in
    let taken = places_in c.work-worked.new.rows in
    let start = places_in c.args.worker.rows in
    let first : start ≡ [] = hired.fresh.0 in
    let worked = c.work-worked.result in
    let new = view_of c.work-worked.new.seat in
    let none = ap (λ (books : Books). books.jobs) hired.books in
    let leaves = c.leave.ensures.view in
    let left = left-view_retired c.work-worked.new.seat c.leave.new.seat leaves in
    let done = HasDone-left jobs start taken c.waits-wait.result worked
    (view_of c.args.worker.seat) new first none did.worked did.jobs did.works in
    let all = subst (HasDone jobs taken worked) (sym left) done in
    record {
      number = search rules;
      done = record {
        seat = IsOf-left c.work-worked.new.seat c.leave.new.seat leaves c.args.run.now.table.now
            c.work-worked.ensures.worker.seat;
        ended = left-role_ended c.work-worked.new.seat c.leave.new.seat leaves;
        pass = did.pass;
        jobs_are = all.jobs_are;
        has = all.has;
        works = all.works;
        mark = did.all;
        waited = λ waits.
            subst (λ (v : View). HaveWaited jobs (made_of taken worked) v.entries v.books.given) (sym left)
            (HaveWaited-worked jobs start taken c.waits-wait.result worked c.args.worker.rows c.work-worked.new.rows
            (view_of c.args.worker.seat) new did.rows first (c.waits-wait.ensures ∙ waits));
      };
      relief = c.work-worked.ensures.worker.relief;
      later = c.work-worked.ensures.later;
    }
