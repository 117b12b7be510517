use Rattle.std.proofs.Common.{rules}
use Rattle.lsn_space.proofs.numerals.is_text_of.Goals as goal

pub returns : goal.returns
returns c = search rules steps 400000
