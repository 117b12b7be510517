use Rattle.lock_core.proofs.Plainly.{lawful-plain_last_commit_same, lawful-paired_iff_plainly}
use Rattle.lock_core.proofs.laws.plain_words.Goals as goal

pub returns-clause-last_commit : goal.returns-clause-last_commit
returns-clause-last_commit c = lawful-plain_last_commit_same

pub returns-clause-pair : goal.returns-clause-pair
returns-clause-pair c = lawful-paired_iff_plainly
