use Rattle.log_rule.proofs.SentRecords.{sent-lawfully, read-lawfully}
use Rattle.log_rule.proofs.laws.sent_lawfully.Goals as goal

pub returns-clause-sent : goal.returns-clause-sent
returns-clause-sent c = sent-lawfully

pub returns-clause-read : goal.returns-clause-read
returns-clause-read c = read-lawfully
