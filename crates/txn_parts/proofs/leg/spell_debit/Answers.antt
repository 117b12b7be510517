use Rattle.std.proofs.Common.{rules}
use Rattle.txn_parts.proofs.leg.spell_debit.Goals as goal

pub returns : goal.returns
returns c = search rules steps 300000
