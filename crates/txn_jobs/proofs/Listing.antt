-- Ascending lists of accounts, and one more account.
use Rattle.std.proofs.Common.{◌≡◌, ◌≢◌, ℕ, zero, suc, ◌+◌, ◌-◌, ◌<◌, ◌≤◌, ◌⊎◌, inl, inr, List, [], ◌∷◌, length, get_or, min, max, take, insert, All}
use Rattle.std.proofs.Common.{Contains, Ok, Err, ◌∙◌, sym, refl, ap, subst, arith}
use mathlib.Core.Logic.{dite}
use native.Mathlib.Decide.{ℕ_discrete}
use Rattle.std.specs.Ordering.{nat_cmp}
use Rattle.std.specs.List.Sorted.{IsStrictlyIncreasing, IsPermutation, IsBinarySearchResult}
use Rattle.std.proofs.lemmas.Bool.{cases_lt, cases_order}
use Rattle.std.proofs.lemmas.List.{get_or_default, length-take, get_or-take}
use Rattle.std.proofs.lemmas.List.Edits.{length-insert, get_or-insert_below, get_or-insert_at, get_or-insert_above}
use Rattle.std.proofs.lemmas.List.Elements.{All-nil, All-cons, All-more, All-weaker, All-from_get_or, Contains-get_or}
use Rattle.std.proofs.lemmas.List.Sorted.{IsPermutation-insert, IsPermutation-sym, Contains-permutation, searched}
use Rattle.txn_jobs.specs.Accounts.{HasAccountsOf, IsAccountOf, AddsAccount}

-- an element of an ascending list is below each later one
pub rising-below : (xs : List ℕ) → IsStrictlyIncreasing xs → (i j : ℕ) → i < j → j < length xs → get_or xs i 0 < get_or xs j 0
rising-below xs rising i j less within = subst (λ k. get_or xs i 0 < get_or xs k 0) (omega arith) (far (j - i - 1) (omega arith))
  where
    far : (gap : ℕ) → i + gap + 1 < length xs → get_or xs i 0 < get_or xs (i + gap + 1) 0
    far zero within = subst (λ k. get_or xs i 0 < get_or xs k 0) (omega arith) (rising i (omega arith))
    far (suc gap) within =
        let nearer = far gap (omega arith) in let next = rising (i + gap + 1) (omega arith) in
        let beyond : get_or xs i 0 < get_or xs (i + gap + 1 + 1) 0 = omega arith in
        subst (λ k. get_or xs i 0 < get_or xs k 0) (omega arith) beyond

pub rising-take : (xs : List ℕ) (n : ℕ) → IsStrictlyIncreasing xs → IsStrictlyIncreasing (take n xs)
rising-take xs n rising k within =
    let size = length-take n xs in let here = get_or-take n xs k 0 (omega arith) in let next = get_or-take n xs (k + 1) 0 (omega arith) in
    let up = rising k (omega arith) in omega arith

-- an account put behind those below it and before those above it
module _ (xs : List ℕ) (i x : ℕ) (rising : IsStrictlyIncreasing xs) (within : i ≤ length xs) (below : (k : ℕ) → k < i → get_or xs k 0 < x)
    (above : (k : ℕ) → i ≤ k → k < length xs → x < get_or xs k 0) where
  at : (k : ℕ) → k ≡ i → get_or (insert xs i x) k 0 ≡ x
  at k same = ap (λ j. get_or (insert xs i x) j 0) same ∙ get_or-insert_at xs i x 0 within

  behind : (k : ℕ) → i < k → get_or (insert xs i x) k 0 ≡ get_or xs (k - 1) 0
  behind k more = subst (λ j. get_or (insert xs i x) j 0 ≡ get_or xs (k - 1) 0) (omega arith)
      (get_or-insert_above xs i x 0 (k - 1) (omega arith) within)

  rising-insert : IsStrictlyIncreasing (insert xs i x)
  rising-insert k last = let size = length-insert xs i x within in elim (cases_order k i) [
    | inl same ↦ let here = at k same in let next = get_or-insert_above xs i x 0 k (omega arith) within in
        let up = above k (omega arith) (omega arith) in omega arith
    | inr (inl less) ↦ let here = get_or-insert_below xs i x 0 k less within in elim (cases_lt (k + 1) i) [
      | inl far ↦ let next = get_or-insert_below xs i x 0 (k + 1) far within in let up = rising k (omega arith) in omega arith
      | inr near ↦ let next = at (k + 1) (omega arith) in let up = below k less in omega arith
    ]
    | inr (inr more) ↦ let here = behind k more in let next = get_or-insert_above xs i x 0 k (omega arith) within in
        let up = rising-below xs rising (k - 1) k (omega arith) (omega arith) in omega arith
  ]

not-falling : (xs : List ℕ) → IsStrictlyIncreasing xs → (j k : ℕ) → j ≤ k → k < length xs → get_or xs j 0 ≤ get_or xs k 0
not-falling xs rising j k le within = dite (ℕ_discrete j k) (λ same. subst (λ n. get_or xs j 0 ≤ get_or xs n 0) same (omega arith))
    (λ apart. let less = rising-below xs rising j k (omega arith) within in omega arith)

-- the place that a binary search answers is such a one
pub rising-insert_searched : (xs ys : List ℕ) (i x : ℕ) → IsStrictlyIncreasing xs → ys ≡ xs
    → IsBinarySearchResult (λ y. nat_cmp y x) ys (Err i) → IsStrictlyIncreasing (insert xs i x)
rising-insert_searched xs ys i x rising is search =
    let found = searched xs x (Err i) (subst (λ list. IsBinarySearchResult (λ y. nat_cmp y x) list (Err i)) is search)
    (not-falling xs rising) in
    rising-insert xs i x rising found.0 found.1 found.2

-- an account that the search finds is there already
pub adds-found : (account : ℕ) (xs ys : List ℕ) (i : ℕ) → IsStrictlyIncreasing xs → ys ≡ xs
    → IsBinarySearchResult (λ y. nat_cmp y account) ys (Ok i) → AddsAccount account xs xs
adds-found account xs ys i rising is result =
    let found = searched xs account (Ok i) (subst (λ list. IsBinarySearchResult (λ y. nat_cmp y account) list (Ok i)) is result)
    (not-falling xs rising) in record {
      has = (i, found.0, get_or_default xs i _ _ found.0 ∙ found.1);
      keeps = λ other has. has;
      only = λ other has. inr has;
      longer = omega arith;
    }

pub adds-insert : (account : ℕ) (old new : List ℕ) (i : ℕ) → i ≤ length old → new ≡ insert old i account → AddsAccount account old new
adds-insert account old new i within is = subst (AddsAccount account old) (sym is) record {
  has = Contains-permutation _ _ account moves (0, omega arith, refl);
  keeps = λ other has. Contains-permutation _ _ other moves (suc has.0, omega arith, has.2);
  only = λ other has. cases other (Contains-permutation _ _ other (IsPermutation-sym _ _ moves) has);
  longer = omega (arith, length-insert old i account within);
}
  where
    moves : IsPermutation (account ∷ old) (insert old i account)
    moves = IsPermutation-insert old i account

    cases : (other : ℕ) → Contains (account ∷ old) other → (other ≡ account) ⊎ Contains old other
    cases other (zero, within, is) = inl (sym is)
    cases other (suc k, within, is) = inr (k, omega arith, is)

-- both accounts of one more leg
module _ (legs : List (ℕ × ℕ × ℕ)) (i : ℕ) (within : i < length legs) (before between after : List ℕ)
    (first : AddsAccount (get_or legs i (0, 0, 0)).0 before between) (second : AddsAccount (get_or legs i (0, 0, 0)).1 between after) where
  abbrev keeps : (account : ℕ) → Contains before account → Contains after account
  keeps account has = second.keeps account (first.keeps account has)

  all-more : All (HasAccountsOf before) (take i legs) → All (HasAccountsOf after) (take (i + 1) legs)
  all-more all = All-more (HasAccountsOf after) legs i (0, 0, 0) within
      (All-weaker (HasAccountsOf before) (HasAccountsOf after) (λ leg has. (keeps leg.0 has.0, keeps leg.1 has.1)) (take i legs) all)
      (second.keeps _ first.has, second.has)

  -- an account of this leg
  of-leg : (account : ℕ) → ((get_or legs i (0, 0, 0)).0 ≡ account) ⊎ ((get_or legs i (0, 0, 0)).1 ≡ account) → IsAccountOf legs account
  of-leg account is = (i, get_or legs i (0, 0, 0), within, get_or_default legs i _ _ within, is)

  only-more : All (IsAccountOf legs) before → All (IsAccountOf legs) after
  only-more only = All-from_get_or (IsAccountOf legs) after 0 (λ k lt.
      elim (second.only (get_or after k 0) (Contains-get_or after k 0 lt)) [
        | inl same ↦ of-leg _ (inr (sym same))
        | inr earlier ↦ elim (first.only _ earlier) [
          | inl same ↦ of-leg _ (inl (sym same))
          | inr old ↦ subst (IsAccountOf legs) old.2 (only old.0 _ old.1)
        ]
      ])

  -- with the first i legs' accounts, and no others, so it is with this leg's
  pub listed_accounts-next_leg : All (HasAccountsOf before) (take i legs) → All (IsAccountOf legs) before
      → All (HasAccountsOf after) (take (i + 1) legs) × All (IsAccountOf legs) after
  listed_accounts-next_leg all only = (all-more all, only-more only)

-- the list of a leg's two accounts, the lower and the higher, or of the one that they are
module _ (payer payee : ℕ) where
  pub one_account-rising : IsStrictlyIncreasing (payer ∷ [])
  one_account-rising k within = absurd (omega arith)

  pub two_accounts-rising : payer ≢ payee → IsStrictlyIncreasing (min payer payee ∷ max payer payee ∷ [])
  two_accounts-rising apart zero within = omega arith
  two_accounts-rising apart (suc k) within = absurd (omega arith)

  module _ (amount : ℕ) where
    abbrev leg : ℕ × ℕ × ℕ
    leg = (payer, payee, amount)

    pub one_account-has_accounts_of : payer ≡ payee → HasAccountsOf (payer ∷ []) leg
    one_account-has_accounts_of same = ((0, omega arith, refl), (0, omega arith, same))

    pub two_accounts-has_accounts_of : HasAccountsOf (min payer payee ∷ max payer payee ∷ []) leg
    two_accounts-has_accounts_of = elim (cases_lt payer payee) [
      | inl less ↦ ((0, omega arith, omega arith), (1, omega arith, omega arith))
      | inr more ↦ ((1, omega arith, omega arith), (0, omega arith, omega arith))
    ]

    own : (account : ℕ) → (payer ≡ account) ⊎ (payee ≡ account) → IsAccountOf (leg ∷ []) account
    own account side = (0, leg, omega arith, refl, side)

    pub one_account-is_account_of : All (IsAccountOf (leg ∷ [])) (payer ∷ [])
    one_account-is_account_of = All-cons (IsAccountOf (leg ∷ [])) payer [] (own payer (inl refl)) (All-nil (IsAccountOf (leg ∷ [])))

    pub two_accounts-is_account_of : All (IsAccountOf (leg ∷ [])) (min payer payee ∷ max payer payee ∷ [])
    two_accounts-is_account_of = All-cons (IsAccountOf (leg ∷ [])) (min payer payee) (max payer payee ∷ [])
        (own (min payer payee) (elim (cases_lt payer payee) [ inl less ↦ inl (omega arith) | inr more ↦ inr (omega arith) ]))
        (All-cons (IsAccountOf (leg ∷ [])) (max payer payee) []
        (own (max payer payee) (elim (cases_lt payer payee) [ inl less ↦ inr (omega arith) | inr more ↦ inl (omega arith) ]))
        (All-nil (IsAccountOf (leg ∷ []))))

-- where there is one leg, its accounts are all
module _ (xs : List ℕ) where
  pub one_leg-has_accounts_of : (legs : List (ℕ × ℕ × ℕ)) → length legs ≡ 1
      → ((amount : ℕ) → HasAccountsOf xs ((get_or legs 0 (0, 0, 0)).0, (get_or legs 0 (0, 0, 0)).1, amount)) → All (HasAccountsOf xs) legs
  one_leg-has_accounts_of [] len has = absurd (omega arith)
  one_leg-has_accounts_of (leg ∷ []) len has = All-cons (HasAccountsOf xs) leg [] (has 0) (All-nil (HasAccountsOf xs))
  one_leg-has_accounts_of (leg ∷ more ∷ legs) len has = absurd (omega arith)

  pub one_leg-is_account_of : (legs : List (ℕ × ℕ × ℕ)) → length legs ≡ 1
      → ((amount : ℕ) → All (IsAccountOf (((get_or legs 0 (0, 0, 0)).0, (get_or legs 0 (0, 0, 0)).1, amount) ∷ [])) xs)
      → All (IsAccountOf legs) xs
  one_leg-is_account_of [] len only = absurd (omega arith)
  one_leg-is_account_of (leg ∷ []) len only = only leg.2
  one_leg-is_account_of (leg ∷ more ∷ legs) len only = absurd (omega arith)
