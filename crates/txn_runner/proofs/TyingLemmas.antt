-- How often a number was taken is how often its place was; so by the queue's rule no job number stands twice.
use Rattle.std.proofs.Common.{◌≡◌, ◌≢◌, ◌<◌, ◌≤◌, ◌==◌, ℕ, zero, suc, ◌-◌, cond, List, [], ◌∷◌, refl, ap, sym, ◌∙◌, subst, arith, eq-eqb, ne_eqb}
use mathlib.Core.Logic.{dite}
use native.Mathlib.Decide.{ℕ_discrete, dec_le}
use Rattle.log_rule.specs.declared.view.View.{View}
use Rattle.log_rule.specs.Accounts.{HasDistinctJobs}
use Rattle.log_rule.specs.Books.{times_taken}
use Rattle.log_rule.specs.Moments.{books_of_all}
use Rattle.log_rule.proofs.Bookings.{times_taken-append}
use Rattle.log_rule.proofs.SentRecords.{takers-times_taken}
use Rattle.job_queue.specs.declared.takings.Takings.{Takings}
use Rattle.job_queue.specs.Rule.{IsShared}
use Rattle.job_queue.specs.Takings.{same, times}
use Rattle.job_queue.proofs.Counting.{same-refl, once_below-le_one}
use Rattle.txn_runner.specs.Places.{NumberedJobs, number_at, taken_at, jobs_taken}
use Rattle.txn_runner.specs.Tying.{AreOfPasses}

pub same-equal_one : (x y : ℕ) → x ≡ y → same x y ≡ 1
same-equal_one x y is = subst (λ z. same x z ≡ 1) is (same-refl x)

pub same-unequal_zero : (x y : ℕ) → x ≢ y → same x y ≡ 0
same-unequal_zero zero zero other = absurd (other refl)
same-unequal_zero zero (suc y) other = refl
same-unequal_zero (suc x) zero other = refl
same-unequal_zero (suc x) (suc y) other = same-unequal_zero x y (λ is. other (ap suc is))

module _ (jobs : NumberedJobs) (x : ℕ) where
  -- as often as its place
  times_taken-place : (place : ℕ) → times_taken (number_at jobs x) (taken_at jobs place ∷ []) ≡ same x place
  times_taken-place place = dite (ℕ_discrete x place)
      (λ is.
      let here : cond {A = ℕ} (number_at jobs place == number_at jobs x) 1 0 ≡ 1 =
      ap (λ b. cond {A = ℕ} b 1 0) (eq-eqb (number_at jobs place) (number_at jobs x) (ap (number_at jobs) (sym is))) in
      omega (arith, here, same-equal_one x place is))
      (λ other.
      let here : cond {A = ℕ} (number_at jobs place == number_at jobs x) 1 0 ≡ 0 =
      ap (λ b. cond {A = ℕ} b 1 0) (ne_eqb (number_at jobs place) (number_at jobs x) (λ is. other (omega (arith, is)))) in
      omega (arith, here, same-unequal_zero x place other))

  pub times_taken-places : (places : List ℕ) → times_taken (number_at jobs x) (jobs_taken jobs places) ≡ times x places
  times_taken-places [] = refl
  times_taken-places (place ∷ places) =
      let sum = times_taken-append (number_at jobs x) (jobs_taken jobs places) (taken_at jobs place ∷ []) in
      omega (arith, sum, times_taken-places places, times_taken-place place)

-- a number below the first was not taken
times_taken-before : (jobs : NumberedJobs) (number : ℕ) → number < jobs.first → (places : List ℕ) → times_taken number (jobs_taken jobs places) ≡ 0
times_taken-before jobs number before [] = refl
times_taken-before jobs number before (place ∷ places) =
    let sum = times_taken-append number (jobs_taken jobs places) (taken_at jobs place ∷ []) in
    let here : cond {A = ℕ} (number_at jobs place == number) 1 0 ≡ 0 =
    ap (λ b. cond {A = ℕ} b 1 0) (ne_eqb (number_at jobs place) number (λ is. absurd (omega (arith, is, before)))) in
    omega (arith, sum, times_taken-before jobs number before places, here)

pub no-job-twice : (jobs : NumberedJobs) (items : List ℕ) (passes : List Takings) (views : List View) → IsShared items passes
    → AreOfPasses jobs passes views → HasDistinctJobs (books_of_all views)
no-job-twice jobs items passes views rule tie number =
    subst (λ n. n ≤ 1) (sym (takers-times_taken number views ∙ ap (times_taken number) tie.jobs_are)) (dite (dec_le jobs.first number)
    (λ from.
    let x : ℕ = number - jobs.first in
    let is : number_at jobs x ≡ number = omega (arith, from) in
    let count = ap (λ n. times_taken n (jobs_taken jobs tie.places)) (sym is) ∙ times_taken-places jobs x tie.places in
    omega (arith, count, tie.taken x, rule.once x, once_below-le_one x rule.next))
    (λ below. omega (arith, times_taken-before jobs number (omega (arith, below)) tie.places)))
