use Rattle.std.proofs.Common.{◌∙◌, ap}
use Rattle.log_rule.specs.declared.view.Standing.{Standing}
use Rattle.log_rule.specs.declared.view.View.{View}
use Rattle.table_tests.proofs.sending_tests.the_flusher_reads_what_was_inserted.Goals as goal

pub ends_at-requires-clause-worker : goal.ends_at-requires-clause-worker
ends_at-requires-clause-worker g c = c.inserts-2.ensures.worker.own

pub ends_at-requires-clause-leaves : goal.ends_at-requires-clause-leaves
ends_at-requires-clause-leaves g c =
    let worker = c.inserts-2.ensures.worker in
    record { rests = worker.ready.rests; none_held = worker.free.none_held }

pub ends_at-requires-clause-flusher_seat : goal.ends_at-requires-clause-flusher_seat
ends_at-requires-clause-flusher_seat g c = c.in_ok-sends.ensures.flusher_seat

pub ends_at-requires-clause-flusher : goal.ends_at-requires-clause-flusher
ends_at-requires-clause-flusher g c =
    let read = ap (λ (me : View × _). me.0.standing) c.load_crew.ensures.view.me in
    ap (λ (standing : Standing). standing.role)
    (c.in_ok-sends.ensures.standing ∙ (c.in_ok-to-2.ensures.standing ∙ (c.in_ok-to.ensures.standing ∙ read))) ∙ c.worker-seat.ensures.flusher_seat.knows.flusher

pub ends_at-requires-clause-made : goal.ends_at-requires-clause-made
ends_at-requires-clause-made g c =
    let read = ap (λ (me : View × _). me.0.standing) c.load_crew.ensures.view.me in
    ap (λ (standing : Standing). standing.made)
    (c.in_ok-sends.ensures.standing ∙ (c.in_ok-to-2.ensures.standing ∙ (c.in_ok-to.ensures.standing ∙ read))) ∙ c.worker-seat.ensures.flusher_seat.knows.made
