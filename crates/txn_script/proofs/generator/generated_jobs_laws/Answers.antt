use Rattle.txn_script.proofs.GeneratorLemmas.{length-generated, generated-allowed}
use Rattle.txn_script.proofs.generator.generated_jobs_laws.Goals as goal

pub returns : goal.returns
returns c = record { count = length-generated; allowed = generated-allowed }
