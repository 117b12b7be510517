use Rattle.std.proofs.Common.{refl}
use Rattle.command_line.proofs.laws.format_numbers.Goals as goal

pub returns : goal.returns
returns c = record { seed = refl; account = refl; accounts = refl; most = (refl, refl); defaults = (refl, refl, refl) }
