use Rattle.lock_core.proofs.GoingOn.{lawful_after-share_none, opening_after-txn_append, opening_after-accounts_append, opening_after-end_append}
use Rattle.lock_core.proofs.GoingOn.{opening_after-balance_append, opening_after-last_commit_append}
use Rattle.lock_core.proofs.laws.opening_goes_on.Goals as goal

pub returns-clause-apart : goal.returns-clause-apart
returns-clause-apart c = lawful_after-share_none

pub returns-clause-txn : goal.returns-clause-txn
returns-clause-txn c = opening_after-txn_append

pub returns-clause-accounts : goal.returns-clause-accounts
returns-clause-accounts c = opening_after-accounts_append

pub returns-clause-end : goal.returns-clause-end
returns-clause-end c = opening_after-end_append

pub returns-clause-balance : goal.returns-clause-balance
returns-clause-balance c = λ opening h l account lawful inside. opening_after-balance_append opening h l lawful account inside

pub returns-clause-last_commit : goal.returns-clause-last_commit
returns-clause-last_commit c = λ opening h l account lawful some. opening_after-last_commit_append opening h l lawful some account
