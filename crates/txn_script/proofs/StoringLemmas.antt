-- Transfers as a script keeps them, and one more.
use Rattle.std.proofs.Common.{◌≡◌, ◌∙◌, ap, refl, List, [], ◌∷◌, ◌++◌, length, map, All}
use Rattle.std.specs.List.{AllByRecursion}
use Rattle.std.proofs.lemmas.List.{map-append, get_or_append_left}
use Rattle.std.proofs.Math.Seq.{get_or-append_seam}
use Rattle.std.proofs.lemmas.List.Elements.{recursion_from_All}
use Rattle.lock_core.specs.declared.job.Job.{Job}
use Rattle.txn_script.specs.declared.stored.Stored.{Stored}
use Rattle.txn_script.specs.declared.stored.Stored.TheVariants.{Single, Long}
use Rattle.txn_script.specs.StoredJob.{job_stored, IsStored}

-- beside more long ones
module _ (long more : List Job) where
  job_stored-append : (stored : Stored) → IsStored long stored → job_stored (long ++ more) stored ≡ job_stored long stored
  job_stored-append (Single leg) is = refl
  job_stored-append (Long at) is = get_or_append_left long more _ at is

  pub jobs_stored-append : (list : List Stored) → All (IsStored long) list → map (job_stored (long ++ more)) list ≡ map (job_stored long) list
  jobs_stored-append list all = by_recursion list (recursion_from_All (IsStored long) list all)
    where
      by_recursion : (list : List Stored) → AllByRecursion (IsStored long) list → map (job_stored (long ++ more)) list ≡ map (job_stored long) list
      by_recursion [] each = refl
      by_recursion (stored ∷ list) each = rw (job_stored-append stored each.0, by_recursion list each.1) refl

-- one more long one stands behind the others
pub job_stored-last_long : (long : List Job) (job : Job) → job_stored (long ++ job ∷ []) (Long (length long)) ≡ job
job_stored-last_long long job = get_or-append_seam long job [] _

-- with one more behind them
pub jobs_stored-push : (long : List Job) (list : List Stored) (stored : Stored) (job : Job) → job_stored long stored ≡ job
    → map (job_stored long) (list ++ stored ∷ []) ≡ map (job_stored long) list ++ job ∷ []
jobs_stored-push long list stored job is = map-append (job_stored long) list (stored ∷ []) ∙ ap (λ j. map (job_stored long) list ++ j ∷ []) is
