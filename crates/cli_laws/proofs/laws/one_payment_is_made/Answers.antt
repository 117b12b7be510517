use Rattle.cli_laws.proofs.RunEndWitness.{log-end-hit}
use Rattle.cli_laws.proofs.RunWitness.{payment-made}
use Rattle.cli_laws.proofs.laws.one_payment_is_made.Goals as goal

pub returns-clause-made : goal.returns-clause-made
returns-clause-made c = payment-made

pub returns-clause-log_end : goal.returns-clause-log_end
returns-clause-log_end c = log-end-hit
