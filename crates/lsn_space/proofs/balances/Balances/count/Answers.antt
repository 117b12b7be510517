use Rattle.std.proofs.Common.{rules}
use Rattle.lsn_space.proofs.balances.Balances.count.Goals as goal

pub returns : goal.returns
returns c = search rules steps 300000
