use Rattle.std.proofs.Common.{refl}
use Rattle.log_record.proofs.laws.format_limits.Goals as goal

pub returns-clause-txn : goal.returns-clause-txn
returns-clause-txn c = refl

pub returns-clause-legs : goal.returns-clause-legs
returns-clause-legs c = refl

pub returns-clause-note : goal.returns-clause-note
returns-clause-note c = refl

pub returns-clause-record : goal.returns-clause-record
returns-clause-record c = refl
