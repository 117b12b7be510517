use Rattle.log_recovery.specs.Opened.{with_records}
use Rattle.cli_laws.proofs.LawLemmas.{lawful-recovered_as}
use Rattle.cli_laws.proofs.laws.run_is_recovered.Goals as goal

pub returns-clause-lawful : goal.returns-clause-lawful
returns-clause-lawful c = lawful-recovered_as

pub returns-clause-run : goal.returns-clause-run
returns-clause-run c = λ bytes opened list jobs sharing held. lawful-recovered_as bytes (with_records opened held.front) held.holds
