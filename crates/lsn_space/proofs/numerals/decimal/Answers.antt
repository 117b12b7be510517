use Rattle.std.proofs.Common.{rules}
use Rattle.lsn_space.proofs.numerals.decimal.Goals as goal

pub returns : goal.returns
returns c = search rules steps 300000
