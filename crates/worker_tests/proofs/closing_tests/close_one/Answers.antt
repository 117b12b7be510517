use Rattle.std.proofs.Common.{◌≡◌, ◌≤◌, ◌∙◌, None, ◌∷◌, [], ◌++◌, length, ap, subst, sym}
use Rattle.log_table.specs.Seats.{view_of, key_of}
use Rattle.job_queue.specs.declared.queue.Queue.{Queue}
use Rattle.job_queue.specs.Passes.{AreAllTaken, places_back, marks_back}
use Rattle.job_queue.specs.Rule.{counted}
use Rattle.txn_runner.specs.Working.{jobs_of, places_in, marks_in}
use Rattle.worker_tests.proofs.AllTaken.{alone-all, knows}
use Rattle.worker_tests.proofs.ClosedLemmas.{one-job, closes-one}
use Rattle.worker_tests.proofs.closing_tests.close_one.Goals as goal

pub returns : goal.returns
returns g c =
    let made = c.in_ok-jobs.ensures in
    let rows = c.work_queue.new.rows in
    let own = c.work_queue.ensures in
    let queue : Queue = c.queue.result.now in
    let of_jobs = c.queue.ensures ∙ c.in_ok-rows.ensures.same.queue in
    let script : queue.script ≡ record { legs = (0, 1, 30) ∷ []; note = None } ∷ [] = ap (λ (queue : Queue). queue.script) of_jobs ∙ made.script in
    let first : queue.first ≡ 1 = ap (λ (queue : Queue). queue.first) of_jobs ∙ made.first in
    let places : places_back c.count_taken.new.self ≡ places_in rows = c.count_taken.ensures.back.0
    ∙ (c.dismiss.ensures.places ∙ ap (λ l. l ++ places_in rows) c.in_ok-rows.ensures.jobs.places) in
    let marks : marks_back c.count_taken.new.self ≡ marks_in rows = c.count_taken.ensures.back.1
    ∙ (c.dismiss.ensures.marks ∙ ap (λ l. l ++ marks_in rows) c.in_ok-rows.ensures.jobs.back) in
    let counts = subst (λ (queue : Queue). AreAllTaken (length queue.script) (places_back c.count_taken.new.self) (marks_back c.count_taken.new.self))
    (c.count_taken.ensures.same.queue ∙ (c.dismiss.ensures.same.queue ∙ sym c.queue.ensures)) c.count_taken.ensures.taken in
    let all : 1 ≤ length (marks_in rows) → places_in rows ≡ counted 0 (length queue.script) =
    λ some'. alone-all queue rows (places_back c.count_taken.new.self) (marks_back c.count_taken.new.self) own.pass places marks counts some' in
    let taken = ap (λ m. m.0.books.jobs) c.leave.ensures.view.me
    ∙ (own.jobs ∙ one-job (jobs_of queue) _ script first c.work_queue.result rows (view_of c.work_queue.new.seat)
    (knows queue rows own.pass).rising own.places own.all all own.works) in
    closes-one 4 _ (key_of c.in_ok-table.table) _ (view_of c.worker-seat.new.flusher_seat) (view_of c.leave.new.seat) (view_of c.merge.new.seat) c.close.result
    c.in_ok-table.ensures.start c.in_ok-table.ensures.rows c.worker-seat.ensures.flusher_seat.knows (ap (λ m. m.0) c.merge.ensures.view.me) taken
    c.close.ensures.gathered c.close.ensures.released c.close.ensures.accounts
