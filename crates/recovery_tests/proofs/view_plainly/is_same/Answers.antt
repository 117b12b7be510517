use Rattle.recovery_tests.proofs.ViewedLemmas.{takes_bytes-empty_or_snapshot, takes_bytes-within_log}
use Rattle.recovery_tests.proofs.view_plainly.is_same.Goals as goal

pub viewed-requires-clause-opening : goal.viewed-requires-clause-opening
viewed-requires-clause-opening c = takes_bytes-empty_or_snapshot c.in-Ok.both.0 c.in-Ok.both.1 c.args.bytes.now c.in-Ok.ensures.found

pub viewed-requires-clause-fits : goal.viewed-requires-clause-fits
viewed-requires-clause-fits c = takes_bytes-within_log c.in-Ok.both.0 c.in-Ok.both.1 c.args.bytes.now c.in-Ok.ensures.found c.as_slice.result.now c.as_slice.ensures
