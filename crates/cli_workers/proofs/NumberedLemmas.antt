-- Loops that make one element of each, where elements are numbered from 0 on.
use Rattle.std.proofs.Common.{◌≡◌, ℕ, ◌+◌, List, [], ◌∷◌, ◌++◌, length, length-append, add-zero, sym, subst, arith}
use Rattle.cli_workers.specs.Workers.{Numbered}

pub Numbered-push : {A : Type 0} (P : ℕ → A → Type 0) (number : ℕ) (xs : List A) (x : A) → Numbered P number xs → P (number + length xs) x
    → Numbered P number (xs ++ x ∷ [])
Numbered-push P number [] x all one = (subst (λ n. P n x) (add-zero number) one, tt)
Numbered-push P number (y ∷ ys) x all one = (all.0, Numbered-push P (number + 1) ys x all.1 (subst (λ n. P n x) (omega arith) one))

-- those that are left have the one fact, and those that were made have the other
pub record Makes {A B : Type 0} (P : ℕ → A → Type 0) (Q : ℕ → B → Type 0) (yielded left : List A) (made : List B) : Type 0 where
  pub left_are : Numbered P (length yielded) left
  pub made_are : Numbered Q 0 made
  pub count : length made ≡ length yielded

pub Makes-next : {A B : Type 0} (P : ℕ → A → Type 0) (Q : ℕ → B → Type 0) (yielded left : List A) (made : List B) (x : A) (y : B)
    → Makes P Q yielded (x ∷ left) made → Q (length yielded) y → Makes P Q (yielded ++ x ∷ []) left (made ++ y ∷ [])
Makes-next P Q yielded left made x y was one =
    let count = was.count in
    let more = length-append yielded (x ∷ []) in
    let more_made = length-append made (y ∷ []) in
    record {
      left_are = subst (λ n. Numbered P n left) (sym more) was.left_are.1;
      made_are = Numbered-push Q 0 made y was.made_are (subst (λ n. Q n y) (omega arith) one);
      count = omega arith;
    }
