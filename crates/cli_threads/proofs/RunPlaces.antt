-- Each place of the front of a script is one worker's, once, so that each job is taken at most once.
use Rattle.std.proofs.Common.{◌≡◌, ◌≢◌, ◌⊎◌, inl, inr, ◌<◌, ◌≤◌, ◌==◌, ℕ, zero, suc, ◌+◌, ◌-◌, cond, None, List, [], ◌∷◌, ◌++◌, length, map, get_or, refl, ap, sym, subst, arith, Contains, ne_eqb}
use Rattle.std.specs.List.{AllByRecursion, concat}
use Rattle.std.proofs.lemmas.List.{map-append}
use Rattle.std.proofs.lemmas.List.Elements.{Contains-append_left, Contains-append_right}
use mathlib.Core.Logic.{dite}
use mathlib.Core.Option.{some}
use native.Mathlib.Decide.{ℕ_discrete, dec_lt}
use lib.ListN.{get_elem?}
use Rattle.lock_core.specs.Serial.{NumberedTransfer, numbered}
use Rattle.lock_core.specs.Transfers.{transfer_of}
use Rattle.lock_core.specs.declared.job.Job.{Job}
use Rattle.log_rule.specs.declared.view.TakenJob.{TakenJob}
use Rattle.log_rule.specs.Books.{task_of, times_taken}
use Rattle.log_rule.proofs.Bookings.{times_taken-append}
use Rattle.job_queue.specs.Takings.{times}
use Rattle.job_queue.proofs.Counting.{same-refl, once_below-le_one, once_below-positive_less, times-append, once_below-inside}
use Rattle.txn_runner.specs.Places.{NumberedJobs, number_at, taken_at, jobs_taken}
use Rattle.txn_runner.proofs.TyingLemmas.{same-unequal_zero, times_taken-places}
use Rattle.lsn_space.proofs.TilingLemmas.{all-append}
use Rattle.cli_threads.specs.Shares.{Share, all_taken, sharing_of}
use Rattle.cli_threads.specs.Sharing.{IsSharedOut}

-- the places that these workers took
abbrev pub places_taken : List Share → List ℕ
places_taken shares = concat (map (λ (share : Share). share.taken) shares)

-- the job at this place, under its number
abbrev pub task_at : ℕ → List Job → ℕ → NumberedTransfer
task_at first script place =
    record { number = first + place; job = transfer_of (get_or script place (record { legs = []; note = None })) }

abbrev pub tasks_of : NumberedJobs → List NumberedTransfer
tasks_of jobs = numbered jobs.first (map transfer_of jobs.script)

-- ---- how often a number was taken

times_taken-none : (n : ℕ) (list : List TakenJob) → AllByRecursion (λ (task : NumberedTransfer). task.number ≢ n) (map task_of list)
    → times_taken n list ≡ 0
times_taken-none n [] others = refl
times_taken-none n (taken ∷ list) others =
    let rest = times_taken-none n list others.1 in
    let here : cond {A = ℕ} (taken.number == n) 1 0 ≡ 0 = ap (λ b. cond {A = ℕ} b 1 0) (ne_eqb taken.number n others.0) in omega arith

module _ (jobs : NumberedJobs) (x : ℕ) where
  times_taken-shares : (shares : List Share) → times_taken (number_at jobs x) (all_taken jobs shares) ≡ times x (places_taken shares)
  times_taken-shares [] = refl
  times_taken-shares (share ∷ shares) =
      let sum = times_taken-append (number_at jobs x) (jobs_taken jobs share.taken) (all_taken jobs shares) in
      let places = times-append x share.taken (places_taken shares) in
      omega (arith, sum, places, times_taken-places jobs x share.taken, times_taken-shares shares)

-- ---- the jobs taken, as those of the script under their numbers

module _ (P : NumberedTransfer → Type 0) where
  -- what holds of the job at each place
  pub numbered-all : (first : ℕ) (script : List Job) → ((place : ℕ) → place < length script → P (task_at first script place))
      → AllByRecursion P (numbered first (map transfer_of script))
  numbered-all first [] each = tt
  numbered-all first (job ∷ script) each = (
    subst (λ n. P (record { number = n; job = transfer_of job })) (omega arith) (each 0 (omega arith)),
    numbered-all (first + 1) script (λ place inside. subst (λ n. P (record { number = n; job = (task_at first script place).job }))
        (omega arith) (each (suc place) (omega arith))),
  )

  all-joined : (xs ys : List TakenJob) → AllByRecursion P (map task_of xs) → AllByRecursion P (map task_of ys)
      → AllByRecursion P (map task_of (xs ++ ys))
  all-joined xs ys first second =
      subst (AllByRecursion P) (sym (map-append task_of xs ys)) (all-append P (map task_of xs) (map task_of ys) first second)

  each-place : (jobs : NumberedJobs) (places : List ℕ) → ((place : ℕ) → 1 ≤ times place places → P (task_of (taken_at jobs place)))
      → AllByRecursion P (map task_of (jobs_taken jobs places))
  each-place jobs [] each = tt
  each-place jobs (place ∷ places) each = all-joined (jobs_taken jobs places) (taken_at jobs place ∷ [])
      (each-place jobs places (λ other has. each other (omega (arith, has))))
      (each place (omega (arith, same-refl place)), tt)

  -- what holds of the job at each place that was taken
  pub all_taken-all : (jobs : NumberedJobs) (shares : List Share)
      → ((place : ℕ) → 1 ≤ times place (places_taken shares) → P (task_of (taken_at jobs place)))
      → AllByRecursion P (map task_of (all_taken jobs shares))
  all_taken-all jobs [] each = tt
  all_taken-all jobs (share ∷ shares) each = all-joined (jobs_taken jobs share.taken) (all_taken jobs shares)
      (each-place jobs share.taken (λ place has. each place (omega (arith, has, times-append place share.taken (places_taken shares)))))
      (all_taken-all jobs shares (λ place has. each place (omega (arith, has, times-append place share.taken (places_taken shares)))))

pub numbered-contains_task_at : (first : ℕ) (script : List Job) (place : ℕ) → place < length script
    → Contains (numbered first (map transfer_of script)) (task_at first script place)
numbered-contains_task_at first [] place inside = absurd (omega arith)
numbered-contains_task_at first (job ∷ script) zero inside = (0, omega arith, ap (λ n. record { number = n; job = transfer_of job }) (omega arith))
numbered-contains_task_at first (job ∷ script) (suc place) inside =
    let tasks : List NumberedTransfer = numbered (first + 1) (map transfer_of script) in
    Contains-append_right (record { number = first; job = transfer_of job } ∷ []) tasks (task_at first (job ∷ script) (suc place))
    (subst (λ n. Contains tasks (record { number = n; job = (task_at first script place).job })) (omega arith)
    (numbered-contains_task_at (first + 1) script place (omega arith)))

module _ (jobs : NumberedJobs) (place : ℕ) where
  abbrev own_task : NumberedTransfer
  own_task = task_of (taken_at jobs place)

  -- what is joined has the tasks of both
  has-first : (xs ys : List TakenJob) → Contains (map task_of xs) own_task → Contains (map task_of (xs ++ ys)) own_task
  has-first xs ys has = subst (λ l. Contains l own_task) (sym (map-append task_of xs ys))
      (Contains-append_left (map task_of xs) (map task_of ys) own_task has)

  has-second : (xs ys : List TakenJob) → Contains (map task_of ys) own_task → Contains (map task_of (xs ++ ys)) own_task
  has-second xs ys has = subst (λ l. Contains l own_task) (sym (map-append task_of xs ys))
      (Contains-append_right (map task_of xs) (map task_of ys) own_task has)

  place-has : (places : List ℕ) → 1 ≤ times place places → Contains (map task_of (jobs_taken jobs places)) own_task
  place-has [] has = absurd (omega (arith, has))
  place-has (first ∷ places) has = dite (ℕ_discrete place first)
      (λ is. has-second (jobs_taken jobs places) (taken_at jobs first ∷ []) (0, omega arith, ap (λ p. task_of (taken_at jobs p)) (sym is)))
      (λ other. has-first (jobs_taken jobs places) (taken_at jobs first ∷ [])
      (place-has places (omega (arith, has, same-unequal_zero place first other))))

  -- the job at a place that was taken is among those taken
  taken-has : (shares : List Share) → 1 ≤ times place (places_taken shares) → Contains (map task_of (all_taken jobs shares)) own_task
  taken-has [] has = absurd (omega (arith, has))
  taken-has (share ∷ shares) has = dite (dec_lt 0 (times place share.taken))
      (λ here. has-first (jobs_taken jobs share.taken) (all_taken jobs shares) (place-has share.taken here))
      (λ none. has-second (jobs_taken jobs share.taken) (all_taken jobs shares)
      (taken-has shares (omega (arith, has, none, times-append place share.taken (places_taken shares)))))

-- ---- all workers

pub share-at : (shares : List Share) (i : ℕ) → i < length shares → (share : Share) × (get_elem? shares i ≡ some share)
share-at [] i inside = absurd (omega arith)
share-at (first ∷ shares) zero inside = (first, refl)
share-at (first ∷ shares) (suc i) inside = share-at shares i (omega arith)

module _ (jobs : NumberedJobs) (front : ℕ) (shares : List Share) (shared : IsSharedOut (length shares) jobs (sharing_of front shares)) where
  abbrev taken : List NumberedTransfer
  taken = map task_of (all_taken jobs shares)

  -- the places that were taken are those of the front
  pub inside_front-taken : (place : ℕ) → place < front → 1 ≤ times place (places_taken shares)
  inside_front-taken place inside = omega (arith, shared.once place, once_below-inside place front inside)

  pub taken-inside_front : (place : ℕ) → 1 ≤ times place (places_taken shares) → place < front
  taken-inside_front place has = once_below-positive_less place front (omega (arith, has, shared.once place))

  -- no number was taken twice
  pub taken-once : (n : ℕ) → times_taken n (all_taken jobs shares) ≤ 1
  taken-once n = dite (dec_lt n jobs.first)
      (λ low.
      let none = times_taken-none n (all_taken jobs shares) (all_taken-all (λ (task : NumberedTransfer). task.number ≢ n) jobs shares
      (λ place has is. omega (arith, low, is))) in omega (arith, none))
      (λ high. subst (λ m. times_taken m (all_taken jobs shares) ≤ 1) (omega (arith, high)) (at-place (n - jobs.first)))
    where
      at-place : (place : ℕ) → times_taken (number_at jobs place) (all_taken jobs shares) ≤ 1
      at-place place = omega (arith, times_taken-shares jobs place shares, shared.once place, once_below-le_one place front)

  -- a job behind the front has another number than each that was taken
  pub behind_front-not_taken : (place : ℕ) → front ≤ place → AllByRecursion (λ (task : NumberedTransfer). task.number ≢ number_at jobs place) taken
  behind_front-not_taken place behind = all_taken-all (λ (task : NumberedTransfer). task.number ≢ number_at jobs place) jobs shares
      (λ other has is. omega (arith, behind, is, taken-inside_front other has))

  -- each job of the script was taken, or has a number of its own
  pub taken-or_not : (place : ℕ)
      → Contains taken (task_at jobs.first jobs.script place) ⊎ AllByRecursion (λ (task : NumberedTransfer). task.number ≢ jobs.first + place) taken
  taken-or_not place = dite (dec_lt place front)
      (λ inside. inl (taken-has jobs place shares (inside_front-taken place inside)))
      (λ behind. inr (behind_front-not_taken place (omega (arith, behind))))

  -- each job that was taken is one of the script
  pub taken-among_tasks : AllByRecursion (Contains (tasks_of jobs)) taken
  taken-among_tasks = all_taken-all (Contains (tasks_of jobs)) jobs shares
      (λ place has. numbered-contains_task_at jobs.first jobs.script place (omega (arith, taken-inside_front place has, shared.within)))
