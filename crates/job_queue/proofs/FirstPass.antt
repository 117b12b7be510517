-- What is known of the first pass, by its own view `v`; `me` is the number of a pass.
use Rattle.std.proofs.Common.{◌≡◌, ℕ, cond, Bool, true, false, List, sym, refl, ap, ◌∙◌, subst, arith}
use mathlib.Core.Option.{some, some-injective}
use lib.ListN.{get_elem?}
use Rattle.job_queue.specs.declared.takings.Takings.{Takings}
use Rattle.job_queue.specs.Takings.{CountsMarks}
use Rattle.job_queue.specs.Rule.{lives, IsShared}

pub lives-one : (v : Takings) → v.live ≡ true → lives v ≡ 1
lives-one v on = ap (λ b. cond {A = ℕ} b 1 0) on

pub lives-zero : (v : Takings) → lives v ≡ 0 → v.live ≡ false
lives-zero v = by_flag v.live
  where
    by_flag : (b : Bool) → cond {A = ℕ} b 1 0 ≡ 0 → b ≡ false
    by_flag false none = refl
    by_flag true none = absurd (omega (arith, none))

-- what is known of the first pass, by its own view
pub record IsBoss (first_pass v : Takings) : Type 0 where
  pub live : v.live ≡ true
  pub count : first_pass.count ≡ v.count
  pub marks : first_pass.marks ≡ v.marks
  pub out : first_pass.out ≡ v.out
  pub budget : CountsMarks v

module _ (items : List ℕ) (views : List Takings) (me : ℕ) (v : Takings) (s : IsShared items views) (at : get_elem? views me ≡ some v) where
  pub first_pass-same : me ≡ 0 → s.first_pass ≡ v
  first_pass-same here = some-injective s.first_pass v (sym s.first ∙ (ap (get_elem? views) (sym here) ∙ at))

  pub IsBoss-first_pass : me ≡ 0 → IsBoss s.first_pass v
  IsBoss-first_pass here = let first_pass = first_pass-same here in record {
    live = sym (ap (λ (u : Takings). u.live) first_pass) ∙ s.first_pass_lives;
    count = ap (λ (u : Takings). u.count) first_pass;
    marks = ap (λ (u : Takings). u.marks) first_pass;
    out = ap (λ (u : Takings). u.out) first_pass;
    budget = subst CountsMarks first_pass s.budget;
  }
