use Rattle.std.proofs.Common.{rules}
use Rattle.own_records.specs.Records.{spelled}
use Rattle.own_records.proofs.record.sealed_text.Goals as goal

pub returns : goal.returns
unfolding spelled
returns c = search rules
