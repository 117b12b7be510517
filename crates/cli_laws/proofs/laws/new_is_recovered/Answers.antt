use Rattle.cli_shared.specs.Creation.{new_list}
use Rattle.cli_laws.proofs.LawLemmas.{lawful-recovered_as}
use Rattle.cli_laws.proofs.laws.new_is_recovered.Goals as goal

pub returns : goal.returns
returns c = λ bytes balances. lawful-recovered_as bytes (new_list balances)
