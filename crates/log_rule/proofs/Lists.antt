-- Lists of which one element changes, or some are picked.
use Rattle.std.proofs.Common.{◌≡◌, ℕ, eqb, ◌||◌, cond, Bool, true, false, true≢false, List, [], ◌∷◌, ◌++◌, sym, refl, ap, ◌∙◌, subst, eqb-true, eq-eqb}
use Rattle.std.specs.List.{AllByRecursion, list_any}
use Rattle.log_rule.specs.Log.{picked}

module _ {A : Type 0} {B : Type 0} (test : A → Bool) (tell : A → B) where
  pub picked-append : (xs ys : List A) → picked test tell (xs ++ ys) ≡ picked test tell xs ++ picked test tell ys
  picked-append [] ys = refl
  picked-append (x ∷ xs) ys = by_test (test x) (picked-append xs ys)
    where
      by_test : (b : Bool) → picked test tell (xs ++ ys) ≡ picked test tell xs ++ picked test tell ys
          → cond b (tell x ∷ picked test tell (xs ++ ys)) (picked test tell (xs ++ ys)) ≡ cond b (tell x ∷ picked test tell xs)
          (picked test tell xs) ++ picked test tell ys
      by_test true rest = ap (λ l. tell x ∷ l) rest
      by_test false rest = rest

  -- one is exchanged for another which neither function tells from it
  pub picked-mid_replaced : (ls rs : List A) (x x' : A) → test x' ≡ test x → (test x ≡ true → tell x' ≡ tell x)
      → picked test tell (ls ++ x' ∷ rs) ≡ picked test tell (ls ++ x ∷ rs)
  picked-mid_replaced [] rs x x' same told = ap (λ b. cond b (tell x' ∷ picked test tell rs) (picked test tell rs)) same ∙ by_test (test x) told
    where
      by_test : (b : Bool) → (b ≡ true → tell x' ≡ tell x)
          → cond b (tell x' ∷ picked test tell rs) (picked test tell rs) ≡ cond b (tell x ∷ picked test tell rs) (picked test tell rs)
      by_test true told = ap (λ y. y ∷ picked test tell rs) (told refl)
      by_test false told = refl
  picked-mid_replaced (l ∷ ls) rs x x' same told = λ i. cond (test l) (tell l ∷ picked-mid_replaced ls rs x x' same told i) (picked-mid_replaced ls rs x x' same told i)

-- where the last one that is picked stands: those before it, and those behind it, of which none is picked
pub record Last {A : Type 0} {B : Type 0} (test : A → Bool) (tell : A → B) (xs : List A) (told : List B) (last : B) : Type 0 where
  pub before : List A
  pub here : A
  pub behind : List A
  pub split : xs ≡ before ++ here ∷ behind
  pub passes : test here ≡ true
  pub is : tell here ≡ last
  pub told_before : picked test tell before ≡ told
  pub none_behind : picked test tell behind ≡ []

module _ {A : Type 0} {B : Type 0} (test : A → Bool) (tell : A → B) where
  pub picked-last : (xs : List A) (told : List B) (last : B) → picked test tell xs ≡ told ++ last ∷ [] → Last test tell xs told last
  picked-last [] told last e = absurd (never told e)
    where
      never : (told : List B) → [] ≡ told ++ last ∷ [] → ⊥
      never [] e = cc
      never (z ∷ zs) e = cc
  picked-last (x ∷ xs) told last e = by_test (test x) refl e told refl (λ rest. picked-last xs rest last)
    where
      later : (rest : List B) (first : List B) → told ≡ first ++ rest → picked test tell (x ∷ []) ≡ first → Last test tell xs rest last
          → Last test tell (x ∷ xs) told last
      later rest first is here s = record {
        before = x ∷ s.before;
        here = s.here;
        behind = s.behind;
        split = ap (λ l. x ∷ l) s.split;
        passes = s.passes;
        is = s.is;
        told_before = picked-append test tell (x ∷ []) s.before ∙ ((λ i. here i ++ s.told_before i) ∙ sym is);
        none_behind = s.none_behind;
      }

      by_test : (b : Bool) → test x ≡ b → cond b (tell x ∷ picked test tell xs) (picked test tell xs) ≡ told ++ last ∷ [] → (all : List B)
          → told ≡ all
          → ((rest : List B) → picked test tell xs ≡ rest ++ last ∷ [] → Last test tell xs rest last) → Last test tell (x ∷ xs) told last
      by_test true passes e [] is go =
          let only : tell x ∷ picked test tell xs ≡ last ∷ [] = e ∙ ap (λ l. l ++ last ∷ []) is in
          record { before = []; here = x; behind = xs; split = refl; passes = passes; is = cc; told_before = sym is; none_behind = cc }
      by_test true passes e (w ∷ ws) is go =
          let more : tell x ∷ picked test tell xs ≡ w ∷ (ws ++ last ∷ []) = e ∙ ap (λ l. l ++ last ∷ []) is in
          let first : tell x ≡ w = cc in
          later ws (w ∷ []) is (ap (λ b. cond b (tell x ∷ []) []) passes ∙ ap (λ y. y ∷ []) first) (go ws cc)
      by_test false fails e all is go = later told [] refl (ap (λ b. cond b (tell x ∷ []) []) fails) (go told e)

module _ {A : Type 0} where
  -- one is exchanged for another
  pub all-mid_replaced : (P : A → Type 0) (ls rs : List A) (x x' : A) → P x' → AllByRecursion P (ls ++ x ∷ rs) → AllByRecursion P (ls ++ x' ∷ rs)
  all-mid_replaced P [] rs x x' now a = (now, a.1)
  all-mid_replaced P (l ∷ ls) rs x x' now a = (a.0, all-mid_replaced P ls rs x x' now a.1)

  -- the one in the middle
  pub all-middle : (P : A → Type 0) (ls rs : List A) (x : A) → AllByRecursion P (ls ++ x ∷ rs) → P x
  all-middle P [] rs x a = a.0
  all-middle P (l ∷ ls) rs x a = all-middle P ls rs x a.1

-- ---- numbers in a list

pub or-true_right : (a b : Bool) → b ≡ true → (a || b) ≡ true
or-true_right true b e = refl
or-true_right false b e = e

pub among-first : (n : ℕ) (list : List ℕ) → list_any (eqb n) (n ∷ list) ≡ true
among-first n list = ap (λ b. b || list_any (eqb n) list) (eq-eqb n n refl)

pub among-more : (n x : ℕ) (list : List ℕ) → list_any (eqb n) list ≡ true → list_any (eqb n) (x ∷ list) ≡ true
among-more n x list is = or-true_right (eqb n x) (list_any (eqb n) list) is

-- what holds of all numbers holds of one among them
pub all-among : (P : ℕ → Type 0) (n : ℕ) (list : List ℕ) → AllByRecursion P list → list_any (eqb n) list ≡ true → P n
all-among P n [] all is = absurd (true≢false (sym is))
all-among P n (x ∷ xs) all is = by_test (eqb n x) refl is (all-among P n xs all.1)
  where
    by_test : (b : Bool) → eqb n x ≡ b → (b || list_any (eqb n) xs) ≡ true → (list_any (eqb n) xs ≡ true → P n) → P n
    by_test true same is later = subst P (sym (eqb-true n x same)) all.0
    by_test false same is later = later is
