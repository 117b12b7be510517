-- What holds of each element of a list.
use Rattle.std.proofs.Common.{◌≡◌, ◌<◌, ℕ, zero, suc, ◌+◌, List, [], ◌∷◌, ◌++◌, length, get_or, sym, subst, arith}
use Rattle.std.specs.List.{AllByRecursion}

module _ {X : Type 0} (P : X → Type 0) where
  pub all-at : (xs : List X) (i : ℕ) (x : X) → AllByRecursion P xs → i < length xs → x ≡ get_or xs i x → P x
  all-at [] i x all inside is = absurd (omega arith)
  all-at (y ∷ ys) zero x all inside is = subst P (sym is) all.0
  all-at (y ∷ ys) (suc i) x all inside is = all-at ys i x all.1 (omega arith) is

  pub all-split : (xs ys : List X) → AllByRecursion P (xs ++ ys) → AllByRecursion P xs × AllByRecursion P ys
  all-split [] ys all = (tt, all)
  all-split (x ∷ xs) ys all = let rest = all-split xs ys all.1 in ((all.0, rest.0), rest.1)
