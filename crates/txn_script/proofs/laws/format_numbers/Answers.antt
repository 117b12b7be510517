use Rattle.std.proofs.Common.{refl}
use Rattle.txn_script.proofs.laws.format_numbers.Goals as goal

pub returns-clause-transfers : goal.returns-clause-transfers
returns-clause-transfers c = refl
