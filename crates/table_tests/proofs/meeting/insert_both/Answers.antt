use Rattle.std.proofs.Common.{◌∙◌, ap}
use Rattle.log_rule.specs.declared.view.Standing.{Standing}
use Rattle.table_tests.proofs.meeting.insert_both.Goals as goal

pub gather-closed-requires-clause-flusher : goal.gather-closed-requires-clause-flusher
gather-closed-requires-clause-flusher g c = ap (λ (standing : Standing). standing.role) c.in_ok-sent.ensures.standing ∙ c.worker-two.ensures.flusher_seat.knows.flusher

pub gather-closed-requires-clause-made : goal.gather-closed-requires-clause-made
gather-closed-requires-clause-made g c = ap (λ (standing : Standing). standing.made) c.in_ok-sent.ensures.standing ∙ c.worker-two.ensures.flusher_seat.knows.made
