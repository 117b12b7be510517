-- Lists, and the elements of them that pass a test.
use Rattle.std.proofs.Common.{◌≡◌, ◌&&◌, cond, Bool, true, false, true≢false, List, [], ◌∷◌, ◌++◌, sym, refl, ap, ◌∙◌}
use Rattle.std.specs.List.{AllByRecursion}
use Rattle.slot_core.specs.Members.{picked}

-- one of them has f, and the others not
pub record Split {A : Type 0} {B : Type 0} (f : A → Bool) (g : A → B) (xs : List A) (y : B) : Type 0 where
  pub ls : List A
  pub x : A
  pub rs : List A
  pub split : xs ≡ ls ++ x ∷ rs
  pub has : f x ≡ true
  pub is : g x ≡ y
  pub before : picked f g ls ≡ []
  pub after : picked f g rs ≡ []

module _ {A : Type 0} {B : Type 0} where
  pub picked-append : (f : A → Bool) (g : A → B) (xs ys : List A) → picked f g (xs ++ ys) ≡ picked f g xs ++ picked f g ys
  picked-append f g [] ys = refl
  picked-append f g (x ∷ xs) ys = by-case (f x) (picked-append f g xs ys)
    where
      by-case : (b : Bool) → picked f g (xs ++ ys) ≡ picked f g xs ++ picked f g ys → cond b (g x ∷ picked f g (xs ++ ys)) (picked f g (xs ++ ys))
          ≡ cond b (g x ∷ picked f g xs) (picked f g xs) ++ picked f g ys
      by-case true e = ap (λ l. g x ∷ l) e
      by-case false e = e

  pub picked_single-split : (f : A → Bool) (g : A → B) (xs : List A) (y : B) → picked f g xs ≡ y ∷ [] → Split f g xs y
  picked_single-split f g [] y e = absurd (cc)
  picked_single-split f g (x ∷ xs) y e = by-case (f x) refl e (picked_single-split f g xs y)
    where
      by-case : (b : Bool) → f x ≡ b → cond b (g x ∷ picked f g xs) (picked f g xs) ≡ y ∷ [] → (picked f g xs ≡ y ∷ [] → Split f g xs y) → Split f g (x ∷ xs) y
      by-case true h e go = record { ls = []; x = x; rs = xs; split = refl; has = h; is = cc; before = refl; after = cc }
      by-case false h e go = let s = go e in record {
        ls = x ∷ s.ls;
        x = s.x;
        rs = s.rs;
        split = ap (λ l. x ∷ l) s.split;
        has = s.has;
        is = s.is;
        before = ap (λ b. cond b (g x ∷ picked f g s.ls) (picked f g s.ls)) h ∙ s.before;
        after = s.after;
      }

module _ {A : Type 0} where
  pub all-left_of_append : (P : A → Type 0) (xs ys : List A) → AllByRecursion P (xs ++ ys) → AllByRecursion P xs
  all-left_of_append P [] ys a = tt
  all-left_of_append P (x ∷ xs) ys a = (a.0, all-left_of_append P xs ys a.1)

  pub all-right_of_append : (P : A → Type 0) (xs ys : List A) → AllByRecursion P (xs ++ ys) → AllByRecursion P ys
  all-right_of_append P [] ys a = a
  all-right_of_append P (x ∷ xs) ys a = all-right_of_append P xs ys a.1

module _ {A : Type 0} {B : Type 0} where
  pub picked-without_unpicked : (f : A → Bool) (g : A → B) (ls rs : List A) (x : A) → f x ≡ false → picked f g (ls ++ rs) ≡ picked f g (ls ++ x ∷ rs)
  picked-without_unpicked f g [] rs x e = ap (λ b. cond b (g x ∷ picked f g rs) (picked f g rs)) (sym e)
  picked-without_unpicked f g (l ∷ ls) rs x e = λ i. cond (f l) (g l ∷ picked-without_unpicked f g ls rs x e i) (picked-without_unpicked f g ls rs x e i)

  pub picked-append_none : (f : A → Bool) (g : A → B) (ls rs : List A) → picked f g ls ≡ [] → picked f g rs ≡ [] → picked f g (ls ++ rs) ≡ []
  picked-append_none f g ls rs a b = picked-append f g ls rs ∙ (ap (λ l. l ++ picked f g rs) a ∙ b)

pub and-left : (a b : Bool) → (a && b) ≡ true → a ≡ true
and-left true b e = refl
and-left false b e = e

pub and-right : (a b : Bool) → (a && b) ≡ true → b ≡ true
and-right true b e = e
and-right false b e = absurd (true≢false (sym e))
