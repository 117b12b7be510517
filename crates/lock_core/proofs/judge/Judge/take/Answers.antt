use Rattle.std.proofs.Common.{arith}
use Rattle.lock_core.proofs.judge.Judge.take.Goals as goal

pub returns-clause-taken : goal.returns-clause-taken
returns-clause-taken c = λ opening h judged. record { ledger = c.in_ok-take.ensures opening h judged.ledger; greatest = omega (arith, judged.greatest) }
