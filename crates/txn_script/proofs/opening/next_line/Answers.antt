use Rattle.std.proofs.Common.{ap, ◌+◌}
use Rattle.txn_script.specs.declared.fault.ParseFault.TheVariants.{Line}
use Rattle.txn_script.proofs.opening.next_line.Goals as goal

pub returns : goal.returns
returns c = ap (λ count. Line (count + 1)) c.count.ensures
