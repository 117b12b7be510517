use Rattle.std.proofs.Common.{arith, rules}
use Rattle.lock_core.proofs.account_changes.balance_after.Goals as goal

pub returns-then-after-le-MOST_BALANCE : goal.returns-then-after-le-MOST_BALANCE
returns-then-after-le-MOST_BALANCE c = (omega arith, search rules steps 300000)
