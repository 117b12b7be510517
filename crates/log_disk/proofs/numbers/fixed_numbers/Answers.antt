use Rattle.std.proofs.Common.{refl}
use Rattle.log_disk.proofs.numbers.fixed_numbers.Goals as goal

pub returns : goal.returns
returns c = record { allowance = refl; block = refl; lines = refl }
