use Rattle.lock_core.proofs.JobLemmas.{note-allowed}
use Rattle.lock_core.proofs.laws.allowed_jobs.Goals as goal

pub returns : goal.returns
returns c = λ accounts job allowed. record { legs = allowed.legs; note = note-allowed job.note allowed.note }
