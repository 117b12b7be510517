use Rattle.std.proofs.Common.{rules}
use Rattle.end_lines.proofs.tally.Tally.count.Goals as goal

pub returns-in-Short-clause-done : goal.returns-in-Short-clause-done
returns-in-Short-clause-done c = search rules steps 400000

pub returns-in-Short-clause-refused : goal.returns-in-Short-clause-refused
returns-in-Short-clause-refused c = search rules steps 400000
