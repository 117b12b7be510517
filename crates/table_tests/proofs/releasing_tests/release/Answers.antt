use Rattle.log_rule.specs.declared.group_view.After.TheVariants.{Nothing}
use Rattle.log_table.specs.Seats.{view_of}
use Rattle.ring_buffer.proofs.Exposing.{HasMarked-marked_call}
use Rattle.table_tests.proofs.releasing_tests.release.Goals as goal

pub expose-requires-clause-marked : goal.expose-requires-clause-marked
expose-requires-clause-marked c = HasMarked-marked_call (view_of c.mark.new.seat) Nothing c.mark.ensures.marked
