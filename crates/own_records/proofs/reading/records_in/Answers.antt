use Rattle.own_records.specs.Records.{made}
use Rattle.own_records.proofs.reading.records_in.Goals as goal

pub returns-clause-found : goal.returns-clause-found
returns-clause-found c = made c.in_ok-scan_records.field-0.at c.in_ok-scan_records.ensures.found
