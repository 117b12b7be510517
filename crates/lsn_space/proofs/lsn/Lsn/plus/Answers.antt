use Rattle.std.proofs.Common.{rules}
use Rattle.lsn_space.proofs.lsn.Lsn.plus.Goals as goal

pub returns-clause-fits : goal.returns-clause-fits
returns-clause-fits c = search rules steps 300000

pub returns-clause-sum : goal.returns-clause-sum
returns-clause-sum c = search rules steps 300000
