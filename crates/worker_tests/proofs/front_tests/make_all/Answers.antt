use Rattle.std.proofs.Common.{◌≡◌, ◌∙◌, ◌++◌, length, ap, subst, sym}
use Rattle.job_queue.specs.declared.queue.Queue.{Queue}
use Rattle.job_queue.specs.Passes.{HasPassOf, places_back, marks_back}
use Rattle.job_queue.specs.Rule.{counted}
use Rattle.txn_runner.specs.Working.{EndsByMark, places_in, marks_in}
use Rattle.worker_tests.proofs.AllTaken.{alone-all}
use Rattle.worker_tests.proofs.front_tests.make_all.Goals as goal

pub returns : goal.returns
returns g c =
    let rows = c.work_alone-worked.new.rows in
    let queue = c.count_taken.ensures.same.queue ∙ c.dismiss-rows.ensures.same.queue in
    let places : places_back c.count_taken.new.self ≡ places_in rows = c.count_taken.ensures.back.0
    ∙ (c.dismiss-rows.ensures.places ∙ ap (λ l. l ++ places_in rows) c.in_ok-rows.ensures.jobs.places) in
    let marks : marks_back c.count_taken.new.self ≡ marks_in rows = c.count_taken.ensures.back.1
    ∙ (c.dismiss-rows.ensures.marks ∙ ap (λ l. l ++ marks_in rows) c.in_ok-rows.ensures.jobs.back) in
    let pass = subst (λ (queue : Queue). HasPassOf queue rows) (sym (queue ∙ sym c.queue.ensures)) c.work_alone-worked.ensures.pass in
    record {
      all = λ said. places
          ∙ (alone-all c.count_taken.new.self.queue rows (places_back c.count_taken.new.self) (marks_back c.count_taken.new.self) pass places marks
          c.count_taken.ensures.taken (subst (λ worked. EndsByMark worked rows) said c.work_alone-worked.ensures.all)
          ∙ ap (λ (queue : Queue). counted 0 (length queue.script)) (queue ∙ c.in_ok-rows.ensures.same.queue));
    }
