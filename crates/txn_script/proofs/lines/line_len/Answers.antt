use Rattle.std.proofs.Common.{rules}
use Rattle.txn_script.proofs.lines.line_len.Goals as goal

pub returns-clause-found : goal.returns-clause-found
returns-clause-found c = search rules steps 900000
