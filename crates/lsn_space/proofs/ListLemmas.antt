-- What holds of each element of a list at its place, and sums over lists.
use Rattle.std.proofs.Common.{◌≡◌, ◌≢◌, ℕ, zero, suc, ◌+◌, ◌≤◌, List, [], ◌∷◌, ◌++◌, set, sym, refl, ap, subst, arith}
use mathlib.Core.Option.{some, some-injective, some-ne-none}
use lib.ListN.{get_elem?}
use Rattle.lsn_space.specs.Lists.{Everywhere, summed}

module _ {A : Type 0} where
  pub everywhere-singleton : (P : A → Type 0) (only : A) → P only → Everywhere P (only ∷ [])
  everywhere-singleton P only mine zero x there = subst P (some-injective only x there) mine
  everywhere-singleton P only mine (suc j) x there = absurd (some-ne-none x (sym there))

  pub summed-set : (amount : A → ℕ) (list : List A) (i : ℕ) (old new : A) → get_elem? list i ≡ some old
      → summed amount (set list i new) + amount old ≡ summed amount list + amount new
  summed-set amount [] i old new there = absurd (some-ne-none old (sym there))
  summed-set amount (x ∷ xs) zero old new there = let same : amount x ≡ amount old = ap amount (some-injective x old there) in omega arith
  summed-set amount (x ∷ xs) (suc i) old new there = omega (arith, summed-set amount xs i old new there)

  pub summed-member_le : (amount : A → ℕ) (list : List A) (i : ℕ) (x : A) → get_elem? list i ≡ some x → amount x ≤ summed amount list
  summed-member_le amount [] i x there = absurd (some-ne-none x (sym there))
  summed-member_le amount (y ∷ ys) zero x there = let same : amount y ≡ amount x = ap amount (some-injective y x there) in omega arith
  summed-member_le amount (y ∷ ys) (suc i) x there = omega (arith, summed-member_le amount ys i x there)

  -- two of them
  pub summed-two_members_le : (amount : A → ℕ) (list : List A) (i j : ℕ) (x y : A) → get_elem? list i ≡ some x → get_elem? list j ≡ some y → j ≢ i
      → amount x + amount y ≤ summed amount list
  summed-two_members_le amount [] i j x y here there differ = absurd (some-ne-none x (sym here))
  summed-two_members_le amount (z ∷ zs) zero zero x y here there differ = absurd (differ refl)
  summed-two_members_le amount (z ∷ zs) zero (suc j) x y here there differ =
      let same : amount z ≡ amount x = ap amount (some-injective z x here) in omega (arith, summed-member_le amount zs j y there)
  summed-two_members_le amount (z ∷ zs) (suc i) zero x y here there differ =
      let same : amount z ≡ amount y = ap amount (some-injective z y there) in omega (arith, summed-member_le amount zs i x here)
  summed-two_members_le amount (z ∷ zs) (suc i) (suc j) x y here there differ = omega (arith, summed-two_members_le amount zs i j x y here there (λ e. differ (ap suc e)))

  pub summed-push : (amount : A → ℕ) (list : List A) (x : A) → summed amount (list ++ x ∷ []) ≡ summed amount list + amount x
  summed-push amount [] x = omega arith
  summed-push amount (y ∷ ys) x = let more = summed-push amount ys x in omega arith
