-- What one pass of the queue knows. The numbers put are the places of a script, 0, 1, 2 and so on, and behind them the marks.
use Rattle.std.specs.Prelude.{◌≡◌, ◌⊎◌, ℕ, zero, suc, ◌+◌, ◌-◌, ◌<◌, ◌≤◌, Bool, true, List, [], ◌∷◌, ◌++◌, length}
use Rattle.std.specs.List.{AllByRecursion}
use Rattle.txn_jobs.specs.Places.{Rises}
use Rattle.job_queue.specs.declared.takings.Takings.{Takings}

-- it has taken nothing
abbrev pub fresh : Bool → ℕ → ℕ → ℕ → ℕ → Takings
fresh live count marks out marks_left = record {
  live = live;
  count = count;
  marks = marks;
  out = out;
  marks_left = marks_left;
  places = [];
  own_marks = [];
  places_back = [];
  marks_back = [];
}

-- one more place was put, or one more mark, which it may take itself or hand out
abbrev pub put_place : Takings → Takings
put_place v = record v { count = v.count + 1 }

abbrev pub put_mark : Takings → Takings
put_mark v = record v { marks = v.marks + 1; marks_left = v.marks_left + 1 }

-- it took one place more, or a mark
abbrev pub took_place : ℕ → Takings → Takings
took_place x v = record v { places = v.places ++ x ∷ [] }

abbrev pub took_mark : ℕ → Takings → Takings
took_mark x v = record v { marks_left = v.marks_left - 1; own_marks = v.own_marks ++ x ∷ [] }

-- what is next is a place, above those that it took before, or a mark
abbrev pub TakesNext : Takings → ℕ → Takings → Type 0
TakesNext v x w =
    ((x < v.count) × AllByRecursion (λ place. place < x) v.places × (w ≡ took_place x v)) ⊎ ((v.count ≤ x) × (w ≡ took_mark x v))

-- the first pass, once it handed one out, which may take one of its marks
abbrev pub handed_out : Takings → Takings
handed_out v = record v { out = v.out + 1; marks_left = v.marks_left - 1 }

-- that pass
abbrev pub worker_of : Takings → Takings
worker_of v = fresh true v.count 0 0 1

-- the first pass, once it took another back
abbrev pub took_back : Takings → Takings → Takings
took_back v w = record v {
  out = v.out - 1;
  marks_left = v.marks_left + w.marks_left;
  places_back = v.places_back ++ (w.places ++ w.places_back);
  marks_back = v.marks_back ++ (w.own_marks ++ w.marks_back);
}

-- 1 where both are the same number
abbrev pub same : ℕ → ℕ → ℕ
same zero zero = 1
same zero (suc y) = 0
same (suc x) zero = 0
same (suc x) (suc y) = same x y

-- 1 where the number is below the other
abbrev pub once_below : ℕ → ℕ → ℕ
once_below x zero = 0
once_below zero (suc n) = 1
once_below (suc x) (suc n) = once_below x n

-- how often the list has the number
abbrev pub times : ℕ → List ℕ → ℕ
times x [] = 0
times x (y ∷ ys) = same x y + times x ys

-- how often the pass has it, as what it took or as what it took back
abbrev pub times_in : ℕ → Takings → ℕ
times_in x v = (times x v.places + times x v.own_marks) + (times x v.places_back + times x v.marks_back)

-- each mark that was put may be taken by this pass, or was handed out, or was taken
abbrev pub CountsMarks : Takings → Type 0
CountsMarks v = v.marks_left + v.out + (length v.own_marks + length v.marks_back) ≡ v.marks

-- and it has no number twice
pub record IsBalanced (v : Takings) : Type 0 where
  pub marks : CountsMarks v
  pub once : (x : ℕ) → times_in x v ≤ 1

-- of the numbers put it has those below some number, each once, and no others
pub record HasAllBelow (v : Takings) : Type 0 where
  pub next : ℕ
  pub within : next ≤ v.count + v.marks
  pub once : (x : ℕ) → times_in x v ≡ once_below x next

-- the numbers are places of a script of so many transfers, or they are marks
abbrev pub ArePlaces : ℕ → List ℕ → Type 0
ArePlaces count numbers = AllByRecursion (λ place. place < count) numbers

abbrev pub AreMarks : ℕ → List ℕ → Type 0
AreMarks count numbers = AllByRecursion (λ mark. count ≤ mark) numbers

-- a worker's: the places that it took rise, and it took one mark, or may take one yet
pub record IsWorkers (count : ℕ) (v : Takings) : Type 0 where
  pub live : v.live ≡ true
  pub count_is : v.count ≡ count
  pub rising : Rises v.places
  pub places : ArePlaces count v.places
  pub marks : AreMarks count v.own_marks
  pub one_mark : v.marks_left + length v.own_marks ≡ 1
  pub none_back : (v.places_back ≡ []) × (v.marks_back ≡ [])

-- the first pass's: it put all places, and takes nothing itself
pub record IsFirst (count : ℕ) (v : Takings) : Type 0 where
  pub count_is : v.count ≡ count
  pub none : (v.places ≡ []) × (v.own_marks ≡ [])
  pub budget : CountsMarks v
  pub places : ArePlaces count v.places_back
  pub marks : AreMarks count v.marks_back
