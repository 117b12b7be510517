-- The places that a worker alone took, whose pass was taken back.
use Rattle.std.proofs.Common.{◌≡◌, ℕ, zero, suc, ◌+◌, ◌<◌, ◌≤◌, List, [], ◌∷◌, length, Option, None, Some, IsSomeAnd, refl, subst, arith}
use Rattle.std.specs.List.{AllByRecursion}
use mathlib.Core.Logic.{dite}
use native.Mathlib.Decide.{dec_lt}
use Rattle.crossbeam_queue.specs.Passes.{Pass}
use Rattle.lsn_space.proofs.TilingLemmas.{all-weaken}
use Rattle.txn_jobs.specs.Places.{Rises}
use Rattle.job_queue.specs.declared.queue.Queue.{Queue}
use Rattle.job_queue.specs.declared.rows.Rows.{Rows}
use Rattle.job_queue.specs.declared.takings.Takings.{Takings}
use Rattle.job_queue.specs.Takings.{same, times, ArePlaces, AreMarks}
use Rattle.job_queue.specs.Rule.{counted}
use Rattle.job_queue.specs.Passes.{AreAllTaken, HasPassOf, IsWorkersPass, marks_by, marks_in, places_by, places_in}
use Rattle.job_queue.proofs.Counting.{once_below-inside}

same-less : (x y : ℕ) → x < y → same x y ≡ 0
same-less zero zero less = absurd (omega (arith, less))
same-less zero (suc y) less = refl
same-less (suc x) zero less = absurd (omega (arith, less))
same-less (suc x) (suc y) less = same-less x y (omega (arith, less))

same-more : (x y : ℕ) → y < x → same x y ≡ 0
same-more zero y more = absurd (omega (arith, more))
same-more (suc x) zero more = refl
same-more (suc x) (suc y) more = same-more x y (omega (arith, more))

-- a number below all others isn't one of them
times-below : (x : ℕ) (ys : List ℕ) → AllByRecursion (λ y. x < y) ys → times x ys ≡ 0
times-below x [] above = refl
times-below x (y ∷ ys) above = omega (arith, same-less x y above.0, times-below x ys above.1)

-- the first of rising numbers, of which the least is one, is the least
least-first : (low x : ℕ) (xs : List ℕ) → low ≤ x → AllByRecursion (λ y. x < y) xs → times low (x ∷ xs) ≡ 1 → x ≡ low
least-first low x xs above rises once = dite (dec_lt low x)
    (λ less. absurd (omega (
      arith,
      once,
      same-less low x less,
      times-below low xs (all-weaken (λ y. x < y) (λ y. low < y) xs (λ y over. omega (arith, over, less)) rises),
    )))
    (λ more. omega (arith, more, above))

-- rising numbers, of which each of these is one, are these
counted-of : (low n : ℕ) (xs : List ℕ) → Rises xs → AllByRecursion (λ x. low ≤ x) xs → AllByRecursion (λ x. x < low + n) xs
    → ((x : ℕ) → low ≤ x → x < low + n → times x xs ≡ 1) → xs ≡ counted low n
counted-of low zero [] rises above below each = refl
counted-of low zero (x ∷ xs) rises above below each = absurd (omega (arith, above.0, below.0))
counted-of low (suc n) [] rises above below each = absurd (let none : 0 ≡ 1 = each low (omega arith) (omega arith) in omega (arith, none))
counted-of low (suc n) (x ∷ xs) rises above below each =
    let first : x ≡ low = least-first low x xs above.0 rises.0 (each low (omega arith) (omega arith)) in
    let rest : xs ≡ counted (suc low) n = counted-of (suc low) n xs rises.1
    (all-weaken (λ y. x < y) (λ y. suc low ≤ y) xs (λ y over. omega (arith, over, first)) rises.0)
    (all-weaken (λ y. y < low + suc n) (λ y. y < suc low + n) xs (λ y under. omega (arith, under)) below.1)
    (λ y from to. omega (arith, each y (omega (arith, from)) (omega (arith, to)), same-more y x (omega (arith, first, from)))) in
    λ i. first i ∷ rest i

-- of the numbers below all that one pass took in the end each is one of its places, once
once-placed : (count : ℕ) (places marks : List ℕ) → AreMarks count marks → AreAllTaken count places marks → 1 ≤ length marks
    → (x : ℕ) → x < count → times x places ≡ 1
once-placed count places marks behind taken some' x below = omega (
  arith,
  taken.once x,
  once_below-inside x taken.next (omega (arith, below, taken.all some')),
  times-below x marks (all-weaken (λ mark. count ≤ mark) (λ mark. x < mark) marks (λ mark over. omega (arith, over, below)) behind),
)

at_least : (xs : List ℕ) → AllByRecursion (λ x. 0 ≤ x) xs
at_least [] = tt
at_least (x ∷ xs) = (omega arith, at_least xs)

-- where one pass alone took all that was taken, and its mark, its places are all, in order
all-counted : (count : ℕ) (places marks : List ℕ) → Rises places → ArePlaces count places → AreMarks count marks → AreAllTaken count places marks
    → 1 ≤ length marks → places ≡ counted 0 count
all-counted count places marks rises are behind taken some' = counted-of 0 count places rises (at_least places)
    (all-weaken (λ x. x < count) (λ x. x < 0 + count) places (λ x under. omega (arith, under)) are)
    (λ x from to. once-placed count places marks behind taken some' x (omega (arith, to)))

-- what a worker's pass took
pub record Knows (count : ℕ) (places marks : List ℕ) : Type 0 where
  pub rising : Rises places
  pub are_places : ArePlaces count places
  pub are_marks : AreMarks count marks

pub knows : (queue : Queue) (rows : Rows) → HasPassOf queue rows → Knows (length queue.script) (places_in rows) (marks_in rows)
knows queue rows has = by_pass rows.pass has
  where
    by_pass : (pass : Option (Pass ℕ Takings)) → IsSomeAnd pass (IsWorkersPass queue)
        → Knows (length queue.script) (places_by pass) (marks_by pass)
    by_pass None has = absurd has
    by_pass (Some pass) has = record { rising = has.knows.rising; are_places = has.knows.places; are_marks = has.knows.marks }

-- it was taken back alone
pub alone-all : (queue : Queue) (rows : Rows) (places marks : List ℕ) → HasPassOf queue rows → places ≡ places_in rows → marks ≡ marks_in rows
    → AreAllTaken (length queue.script) places marks → 1 ≤ length (marks_in rows) → places_in rows ≡ counted 0 (length queue.script)
alone-all queue rows places marks has places_are marks_are taken some' =
    let own = knows queue rows has in
    all-counted (length queue.script) (places_in rows) (marks_in rows) own.rising own.are_places own.are_marks
    (subst (AreAllTaken (length queue.script) (places_in rows)) marks_are
    (subst (λ places. AreAllTaken (length queue.script) places marks) places_are taken)) some'
