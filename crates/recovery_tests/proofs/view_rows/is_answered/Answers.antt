use Rattle.recovery_tests.proofs.ViewedLemmas.{takes_bytes-has_viewed}
use Rattle.recovery_tests.proofs.view_rows.is_answered.Goals as goal

pub has_answers-requires : goal.has_answers-requires
has_answers-requires g c = record { viewed = takes_bytes-has_viewed c.in-Ok.both.0 c.in-Ok.both.1 c.args.bytes.now c.in-Ok.ensures.found }
