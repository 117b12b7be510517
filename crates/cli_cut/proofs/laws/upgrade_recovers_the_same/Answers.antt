use Rattle.cli_cut.proofs.UpgradeLemmas.{IsUpgradedLog-holds_lawful, IsUpgradedLog-recover_alike}
use Rattle.cli_cut.proofs.laws.upgrade_recovers_the_same.Goals as goal

pub returns : goal.returns
returns c = record { lawful = IsUpgradedLog-holds_lawful; alike = IsUpgradedLog-recover_alike }
