use Rattle.std.proofs.Common.{arith}
use Rattle.std.proofs.lemmas.Option.{IfSome_then}
use Rattle.txn_script.proofs.opening.next_balance.Goals as goal

pub returns-then-count-lt-MOST_ACCOUNTS-clause-room : goal.returns-then-count-lt-MOST_ACCOUNTS-clause-room
returns-then-count-lt-MOST_ACCOUNTS-clause-room c = IfSome_then c.number.result c.number.ensures.most (λ n most. omega arith)

pub returns-then-count-lt-MOST_ACCOUNTS-clause-balance : goal.returns-then-count-lt-MOST_ACCOUNTS-clause-balance
returns-then-count-lt-MOST_ACCOUNTS-clause-balance c = c.number.ensures.most

pub returns-else-count-lt-MOST_ACCOUNTS-clause-none : goal.returns-else-count-lt-MOST_ACCOUNTS-clause-none
returns-else-count-lt-MOST_ACCOUNTS-clause-none c = λ room balance. omega arith
