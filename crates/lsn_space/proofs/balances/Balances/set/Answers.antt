use Rattle.std.proofs.Common.{rules}
use Rattle.lsn_space.proofs.balances.Balances.set.Goals as goal

pub returns : goal.returns
returns c = search rules steps 300000
