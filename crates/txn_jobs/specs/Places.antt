-- The jobs of a script under transaction numbers, places of them, from 0 on, and lists of places.
use Rattle.std.specs.Prelude.{◌≡◌, ℕ, ◌+◌, ◌<◌, None, List, [], ◌∷◌, length, get_or, Contains}
use Rattle.std.specs.List.{AllByRecursion}
use Rattle.lock_core.specs.declared.job.Job.{Job}

-- the jobs of a script, the first of them under this transaction number, and each other under the next one
pub record NumberedJobs : Type 0 where
  pub script : List Job
  pub first : ℕ

-- the transaction number of the job at this place
abbrev pub number_at : NumberedJobs → ℕ → ℕ
number_at jobs place = jobs.first + place

-- that job
abbrev pub job_at : NumberedJobs → ℕ → Job
job_at jobs place = get_or jobs.script place (record { legs = []; note = None })

-- the number is that of the job at one of these places
abbrev pub IsOneOf : NumberedJobs → List ℕ → ℕ → Type 0
IsOneOf jobs places number = (place : ℕ) × Contains places place × (number ≡ number_at jobs place)

-- each number is above those before it
abbrev pub Rises : List ℕ → Type 0
Rises [] = Unit {0}
Rises (x ∷ xs) = AllByRecursion (λ y. x < y) xs × Rises xs

-- the script has all of these places
abbrev pub AreOfScript : NumberedJobs → List ℕ → Type 0
AreOfScript jobs places = AllByRecursion (λ place. place < length jobs.script) places
