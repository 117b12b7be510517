-- How a script keeps its transfers.
use Rattle.std.specs.Prelude.{◌<◌, List, [], ◌∷◌, None, length, get_or, ⊤}
use Rattle.lock_core.specs.declared.job.Job.{Job}
use Rattle.txn_script.specs.declared.stored.Stored.{Stored}
use Rattle.txn_script.specs.declared.stored.Stored.TheVariants.{Single, Long}

-- the transfer that is kept so beside these long ones
abbrev pub job_stored : List Job → Stored → Job
job_stored long (Single leg) = record { legs = leg ∷ []; note = None }
job_stored long (Long at) = get_or long at (record { legs = []; note = None })

-- where it is a long one, it stands among them
abbrev pub IsStored : List Job → Stored → Type 0
IsStored long (Single leg) = ⊤
IsStored long (Long at) = at < length long
