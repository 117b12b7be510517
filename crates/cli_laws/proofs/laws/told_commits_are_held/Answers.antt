use Rattle.cli_laws.proofs.ToldLemmas.{HoldsTold-tells_of_commits, run_text-tells_of_commits}
use Rattle.cli_laws.proofs.ToldWitness.{payment-told}
use Rattle.cli_laws.proofs.laws.told_commits_are_held.Goals as goal

pub returns-clause-text : goal.returns-clause-text
returns-clause-text g c = run_text-tells_of_commits

pub returns-clause-image : goal.returns-clause-image
returns-clause-image g c = HoldsTold-tells_of_commits g.D.LogDisk

pub returns-clause-met : goal.returns-clause-met
returns-clause-met g c = payment-told
