-- The rule of the queue, over what it holds and what its passes know. Those left are the last ones put; each of the others was taken once,
-- by a pass whose places rise.
use Rattle.std.specs.Prelude.{◌≡◌, ℕ, zero, suc, ◌+◌, ◌<◌, ◌≤◌, true, false, if◌then◌else◌, List, [], ◌∷◌, length}
use Rattle.std.specs.List.{AllByRecursion}
use mathlib.Core.Option.{some}
use lib.ListN.{get_elem?}
use Rattle.txn_jobs.specs.Places.{Rises}
use Rattle.lsn_space.specs.Lists.{Everywhere, summed}
use Rattle.job_queue.specs.declared.takings.Takings.{Takings}
use Rattle.job_queue.specs.Takings.{times_in, once_below, CountsMarks}

-- k, k + 1 and so on, n numbers
abbrev pub counted : ℕ → ℕ → List ℕ
counted k zero = []
counted k (suc n) = k ∷ counted (suc k) n

-- 1 for a pass, and 0 for one that was taken back
abbrev pub lives : Takings → ℕ
lives v = if v.live then 1 else 0

abbrev pub marks_left_of : Takings → ℕ
marks_left_of v = v.marks_left

-- a pass knows how many places there are
abbrev pub HasCount : ℕ → Takings → Type 0
HasCount count v = v.live ≡ true → v.count ≡ count

-- its places rise, and are below those left
abbrev pub IsInOrder : ℕ → Takings → Type 0
IsInOrder next v = Rises v.places × AllByRecursion (λ place. place < next) v.places

-- one that was taken back has no numbers
abbrev pub IsEmptyIfSpent : Takings → Type 0
IsEmptyIfSpent v = v.live ≡ false → (x : ℕ) → times_in x v ≡ 0

-- The first pass put them all. `next` is the least number that was not taken.
pub record IsShared (items : List ℕ) (views : List Takings) : Type 0 where
  pub next : ℕ
  pub first_pass : Takings
  pub first : get_elem? views 0 ≡ some first_pass
  pub first_pass_lives : first_pass.live ≡ true
  pub put : first_pass.count + first_pass.marks ≡ next + length items
  pub items_are : items ≡ counted next (length items)
  pub once : (x : ℕ) → summed (times_in x) views ≡ once_below x next
  pub out : summed lives views ≡ 1 + first_pass.out
  pub budget : CountsMarks first_pass
  pub counts : Everywhere (HasCount first_pass.count) views
  pub early : next ≤ first_pass.count → summed marks_left_of views ≡ first_pass.marks
  pub late : first_pass.count ≤ next → summed marks_left_of views + next ≡ first_pass.count + first_pass.marks
  pub spent : Everywhere IsEmptyIfSpent views
  pub in_order : Everywhere (IsInOrder next) views
