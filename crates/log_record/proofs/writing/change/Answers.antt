use Rattle.std.proofs.Common.{rules}
use Rattle.log_record.proofs.writing.change.Goals as goal

pub returns : goal.returns
returns c = search rules steps 300000
