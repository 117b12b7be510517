use Rattle.lock_core.proofs.OneMore.{is_committed-no_commit, is_committed-commit, total-uncommitted, total-commit, last_commit_of-no_commit, last_commit_of-commit}
use Rattle.lock_core.proofs.laws.one_more_record.Goals as goal

pub returns-clause-plain_committed : goal.returns-clause-plain_committed
returns-clause-plain_committed c = is_committed-no_commit

pub returns-clause-plain_total : goal.returns-clause-plain_total
returns-clause-plain_total c = total-uncommitted

pub returns-clause-plain_last_commit : goal.returns-clause-plain_last_commit
returns-clause-plain_last_commit c = last_commit_of-no_commit

pub returns-clause-commit_committed : goal.returns-clause-commit_committed
returns-clause-commit_committed c = is_committed-commit

pub returns-clause-commit_total : goal.returns-clause-commit_total
returns-clause-commit_total c = total-commit

pub returns-clause-commit_last_commit : goal.returns-clause-commit_last_commit
returns-clause-commit_last_commit c = last_commit_of-commit
