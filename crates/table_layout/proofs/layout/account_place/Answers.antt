use Rattle.std.proofs.Common.{refl}
use Rattle.table_layout.proofs.layout.account_place.Goals as goal

pub returns : goal.returns
returns c = refl
