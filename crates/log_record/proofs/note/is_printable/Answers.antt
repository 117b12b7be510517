use Rattle.std.proofs.Common.{rules}
use Rattle.log_record.proofs.note.is_printable.Goals as goal

pub returns : goal.returns
returns c = search rules steps 800000
