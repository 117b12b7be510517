use Rattle.std.proofs.Common.{refl}
use Rattle.lock_core.specs.Sums.{base_after}
use Rattle.lock_core.specs.Lawful.{base_with}
use Rattle.lock_core.proofs.Meeting.{lawful-met}
use Rattle.lock_core.proofs.Apart.{share_none-of_transaction_none}
use Rattle.lock_core.proofs.Appending.{total-append, balance_of-append, last_commit_of-append, base_with-append_no_genesis, lawful-no_genesis}
use Rattle.lock_core.proofs.laws.sums_go_on.Goals as goal

pub returns-clause-total : goal.returns-clause-total
returns-clause-total c = total-append

pub returns-clause-balance : goal.returns-clause-balance
returns-clause-balance c = λ opening h l account lawful inside apart. balance_of-append (base_with opening l) l (lawful-met opening l lawful) h account inside apart

pub returns-clause-last_commit : goal.returns-clause-last_commit
returns-clause-last_commit c = λ base h l account apart. last_commit_of-append base (base_after base l) h l account refl (share_none-of_transaction_none h l apart)

pub returns-clause-base : goal.returns-clause-base
returns-clause-base c = base_with-append_no_genesis

pub returns-clause-none : goal.returns-clause-none
returns-clause-none c = lawful-no_genesis
