-- Generated transfers.
use Rattle.std.proofs.Common.{◌≡◌, ◌<◌, ℕ, zero, suc, ◌+◌, ◌-◌, List, [], ◌∷◌, ◌++◌, length, All, refl, ap, ◌∙◌, sym, arith, append_assoc}
use Rattle.std.specs.List.{AllByRecursion}
use Rattle.std.proofs.lemmas.List.Elements.{All-from_recursion}
use Rattle.lock_core.specs.declared.job.Job.{Job}
use Rattle.txn_script.specs.Generator.{number_after, leg_from, job_from, generated_jobs}
use Rattle.txn_script.specs.Script.{IsAllowedLeg, IsAllowedJob}

-- what is made, and what is to come, is the whole
pub generated_jobs-step : (made whole : List Job) (n i x : ℕ) → i < n → made ++ generated_jobs (n - i) x ≡ whole
    → (made ++ job_from (number_after x) ∷ []) ++ generated_jobs (n - (i + 1)) (number_after x) ≡ whole
generated_jobs-step made whole n i x within before =
    let left : n - i ≡ suc (n - (i + 1)) = omega arith in
    append_assoc made (job_from (number_after x) ∷ []) (generated_jobs (n - (i + 1)) (number_after x))
    ∙ ap (λ k. made ++ generated_jobs k x) (sym left) ∙ before

pub length-generated : (n seed : ℕ) → length (generated_jobs n seed) ≡ n
length-generated zero seed = refl
length-generated (suc n) seed = ap suc (length-generated n (number_after seed))

leg-allowed : (x : ℕ) → IsAllowedLeg 64 (leg_from x)
leg-allowed x = record {
  payer = omega arith;
  payee = omega arith;
  two = λ same. absurd (omega (arith, same));
  some = omega arith;
  most = omega arith;
}

job-allowed : (x : ℕ) → IsAllowedJob 64 (job_from x)
job-allowed x = record {
  legs = record { some = omega arith; few = omega arith; each = (leg-allowed x, tt) };
  note = tt;
}

each-allowed : (n seed : ℕ) → AllByRecursion (IsAllowedJob 64) (generated_jobs n seed)
each-allowed zero seed = tt
each-allowed (suc n) seed = (job-allowed (number_after seed), each-allowed n (number_after seed))

pub generated-allowed : (n seed : ℕ) → All (IsAllowedJob 64) (generated_jobs n seed)
generated-allowed n seed = All-from_recursion (IsAllowedJob 64) (generated_jobs n seed) (each-allowed n seed)
