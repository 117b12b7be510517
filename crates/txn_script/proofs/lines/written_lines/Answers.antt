use Rattle.txn_script.proofs.LineLemmas.{lines-ended_each, lines-ended_and_last}
use Rattle.txn_script.proofs.lines.written_lines.Goals as goal

pub returns : goal.returns
returns c = record { ended = lines-ended_each; lacking = lines-ended_and_last }
