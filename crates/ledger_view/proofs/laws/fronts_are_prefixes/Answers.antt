use Rattle.std.proofs.Common.{[]}
use Rattle.ledger_view.proofs.FrontLemmas.{front_to-prefix}
use Rattle.ledger_view.proofs.laws.fronts_are_prefixes.Goals as goal

pub returns : goal.returns
returns c = λ start lsn records below. front_to-prefix start [] records lsn below
