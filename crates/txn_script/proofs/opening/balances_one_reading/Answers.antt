use Rattle.txn_script.proofs.BalanceLemmas.{balances-same, bad_line-same, balances_text-no_bad_line}
use Rattle.txn_script.proofs.opening.balances_one_reading.Goals as goal

pub returns : goal.returns
returns c = record { balances = balances-same; line = bad_line-same; apart = balances_text-no_bad_line }
