-- No more transfers of a run are begun and not ended than there are workers, since each worker has at most one such.
use Rattle.std.proofs.Common.{◌≡◌, ◌≢◌, ◌<◌, ◌≤◌, ◌+◌, ◌∙◌, ℕ, true, true≢false, List, [], ◌∷◌, ◌++◌, length, refl, sym, arith, Contains}
use Rattle.std.specs.List.{AllByRecursion, concat}
use Rattle.std.proofs.lemmas.List.Elements.{Contains-append_right}
use mathlib.Core.Logic.{dite}
use native.Mathlib.Decide.{dec_lt}
use Rattle.log_record.specs.declared.rec.Placed.{Placed}
use Rattle.log_recovery.specs.Opened.{OpenedList, placed}
use Rattle.lock_core.specs.Transactions.{own_records_of}
use Rattle.job_queue.specs.Takings.{times}
use Rattle.job_queue.proofs.Counting.{once_below-le_one, same-refl, times-append, once_below-inside}
use Rattle.txn_jobs.specs.Places.{NumberedJobs, number_at}
use Rattle.cli_threads.specs.Run.{GoesOn}
use Rattle.cli_threads.specs.RunStops.{EndsAs}
use Rattle.cli_threads.specs.Sharing.{IsSharedOut, Sharing}
use Rattle.cli_threads.proofs.PlaceTimes.{times_positive-contains}
use Rattle.txn_runner.proofs.TyingLemmas.{same-equal_one}
use Rattle.cli_laws.specs.InTurn.{EndsInTurn, HasFewUnended, IsUnended}

-- ---- how often a list has one of some places

abbrev hits : List ℕ → List ℕ → ℕ
hits [] list = 0
hits (x ∷ xs) list = times x list + hits xs list

hits-empty : (xs : List ℕ) → hits xs [] ≡ 0
hits-empty [] = refl
hits-empty (x ∷ xs) = omega (arith, hits-empty xs)

hits-append : (xs first more : List ℕ) → hits xs (first ++ more) ≡ hits xs first + hits xs more
hits-append [] first more = refl
hits-append (x ∷ xs) first more = omega (arith, times-append x first more, hits-append xs first more)

hits-none : (xs list : List ℕ) → AllByRecursion (λ x. times x list ≡ 0) xs → hits xs list ≡ 0
hits-none [] list none = refl
hits-none (x ∷ xs) list none = omega (arith, none.0, hits-none xs list none.1)

hits-all : (xs list : List ℕ) → AllByRecursion (λ x. 1 ≤ times x list) xs → length xs ≤ hits xs list
hits-all [] list all = omega arith
hits-all (x ∷ xs) list all = omega (arith, all.0, hits-all xs list all.1)

-- lists of which each has one of them at most
hits-concat : (xs : List ℕ) (lists : List (List ℕ)) → AllByRecursion (λ list. hits xs list ≤ 1) lists
    → hits xs (concat lists) ≤ length lists
hits-concat xs [] each = omega (arith, hits-empty xs)
hits-concat xs (list ∷ lists) each = omega (arith, each.0, hits-concat xs lists each.1, hits-append xs list (concat lists))

-- ---- the transfers of one worker

module _ (jobs : NumberedJobs) (h : List Placed) (list : List ℕ)
    (in_turn : (i j : ℕ) → Contains list i → Contains list j → i < j → own_records_of (number_at jobs j) h ≢ [] → EndsAs jobs i h true)
    (once : (x : ℕ) → times x list ≤ 1) where
  -- two of them are never unended at once
  never-both : (i j : ℕ) → i ≢ j → Contains list i → Contains list j → IsUnended jobs h i → IsUnended jobs h j → ⊥
  never-both i j apart has has' this that = dite (dec_lt i j)
      (λ less. true≢false (sym (in_turn i j has has' less that.begun) ∙ this.unended))
      (λ no_less. dite (dec_lt j i)
      (λ more. true≢false (sym (in_turn j i has' has more this.begun) ∙ that.unended))
      (λ no_more. apart (omega (arith, no_less, no_more))))

  -- so where one is, the others have no other
  none-else : (x : ℕ) (xs : List ℕ) → Contains list x → IsUnended jobs h x → times x xs ≡ 0 → AllByRecursion (IsUnended jobs h) xs
      → AllByRecursion (λ y. times y list ≡ 0) xs
  none-else x [] has this apart each = tt
  none-else x (y ∷ ys) has this apart each = (
    dite (dec_lt 0 (times y list))
        (λ there.
        let other : x ≢ y = λ is. absurd (omega (arith, apart, same-equal_one x y is)) in
        absurd (never-both x y other has (times_positive-contains y list (omega (arith, there))) this each.0))
        (λ none. omega (arith, none)),
    none-else x ys has this (omega (arith, apart)) each.1,
  )

  hits-most : (xs : List ℕ) → ((x : ℕ) → times x xs ≤ 1) → AllByRecursion (IsUnended jobs h) xs → hits xs list ≤ 1
  hits-most [] apart each = omega arith
  hits-most (x ∷ xs) apart each = dite (dec_lt 0 (times x list))
      (λ here.
      let alone : times x xs ≡ 0 = omega (arith, apart x, same-refl x) in
      omega (arith, once x, hits-none xs list (none-else x xs (times_positive-contains x list (omega (arith, here))) each.0 alone each.1)))
      (λ none. omega (arith, none, hits-most xs (λ y. omega (arith, apart y)) each.1))

-- ---- those of all

module _ (opened records : OpenedList) (jobs : NumberedJobs) (sharing : Sharing) (workers : ℕ) (goes_on : GoesOn opened jobs sharing records)
    (shared : IsSharedOut workers jobs sharing) where
  -- what has a record was taken
  begun-inside : (x : ℕ) → own_records_of (number_at jobs x) (placed records) ≢ [] → x < sharing.front
  begun-inside x begun = dite (dec_lt x sharing.front) (λ inside. inside)
      (λ no_less. absurd (begun (goes_on.rest x (omega (arith, no_less)))))

  taken-inside : (x : ℕ) → x < sharing.front → 1 ≤ times x (concat sharing.taken)
  taken-inside x inside = omega (arith, shared.once x, once_below-inside x sharing.front inside)

  all-taken : (xs : List ℕ) → AllByRecursion (IsUnended jobs (placed records)) xs
      → AllByRecursion (λ x. 1 ≤ times x (concat sharing.taken)) xs
  all-taken [] each = tt
  all-taken (x ∷ xs) each = (taken-inside x (begun-inside x each.0.begun), all-taken xs each.1)

  each-list : (xs : List ℕ) → ((x : ℕ) → times x xs ≤ 1) → AllByRecursion (IsUnended jobs (placed records)) xs
      → (lists : List (List ℕ)) → ((list : List ℕ) → Contains lists list → Contains sharing.taken list)
      → ((x : ℕ) → times x (concat lists) ≤ 1) → AllByRecursion (λ list. hits xs list ≤ 1) lists
  each-list xs apart each [] among once = tt
  each-list xs apart each (list ∷ lists) among once = (
    hits-most jobs (placed records) list (λ i j. goes_on.in_turn list i j (among list (0, omega arith, refl)))
        (λ x. omega (arith, once x, times-append x list (concat lists))) xs apart each,
    each-list xs apart each lists (λ other has. among other (Contains-append_right (list ∷ []) lists other has))
        (λ x. omega (arith, once x, times-append x list (concat lists))),
  )

  pub unended-at_most_workers : HasFewUnended workers jobs (placed records)
  unended-at_most_workers places apart each = omega (
    arith,
    shared.count,
    hits-all places (concat sharing.taken) (all-taken places each),
    hits-concat places sharing.taken (each-list places apart each sharing.taken (λ list has. has)
        (λ x. omega (arith, shared.once x, once_below-le_one x sharing.front))),
  )

-- the one list among lists
only-list : (lists : List (List ℕ)) → length lists ≡ 1
    → (list : List ℕ) × Contains lists list × ((x : ℕ) → 1 ≤ times x (concat lists) → Contains list x)
only-list [] one = absurd (omega (arith, one))
only-list (list ∷ []) one =
    (list, (0, omega arith, refl), λ x has. times_positive-contains x list (omega (arith, has, times-append x list [])))
only-list (list ∷ other ∷ lists) one = absurd (omega (arith, one))

-- one worker makes the transfers in the order of the script
pub one_worker-in_order : (opened records : OpenedList) (jobs : NumberedJobs) (sharing : Sharing) → GoesOn opened jobs sharing records
    → IsSharedOut 1 jobs sharing → EndsInTurn jobs (placed records)
one_worker-in_order opened records jobs sharing goes_on shared i j less begun =
    let inside = begun-inside opened records jobs sharing 1 goes_on shared j begun in
    let taken = taken-inside opened records jobs sharing 1 goes_on shared in
    let only = only-list sharing.taken shared.count in
    goes_on.in_turn only.0 i j only.1 (only.2 i (taken i (omega (arith, less, inside)))) (only.2 j (taken j inside)) less begun
