-- Histories that share no transaction.
use Rattle.std.proofs.Common.{◌≡◌, ◌≢◌, ◌<◌, ◌≤◌, ℕ, ◌==◌, cond, Bool, true, false, List, [], ◌∷◌, ◌++◌, refl, ap, ◌∙◌, sym, arith}
use Rattle.std.specs.List.{AllByRecursion}
use Rattle.std.proofs.lemmas.List.{append-nil}
use Rattle.log_record.specs.declared.rec.Placed.{Placed}
use Rattle.lock_core.specs.Records.{txn_of}
use Rattle.lock_core.specs.Transactions.{of_transaction, recs_of, own_records_of, ShareNoTransaction}
use Rattle.lock_core.specs.Sums.{greatest_txn}
use Rattle.lock_core.proofs.OneMore.{of_transaction-first_other}

pub of_transaction-append : (n : ℕ) (h l : List Placed) → of_transaction n (h ++ l) ≡ of_transaction n h ++ of_transaction n l
of_transaction-append n [] l = refl
of_transaction-append n (entry ∷ h) l = by_case (txn_of entry.rec == n) (of_transaction-append n h l)
  where
    by_case : (b : Bool) → of_transaction n (h ++ l) ≡ of_transaction n h ++ of_transaction n l
        → cond b (entry ∷ of_transaction n (h ++ l)) (of_transaction n (h ++ l)) ≡ cond b (entry ∷ of_transaction n h) (of_transaction n h) ++ of_transaction n l
    by_case true rest = ap (λ entries. entry ∷ entries) rest
    by_case false rest = rest

-- the transaction has no record in the one history, so its records are those in the other
pub own_records_of-append_none : (n : ℕ) (h l : List Placed) → of_transaction n l ≡ [] → own_records_of n (h ++ l) ≡ own_records_of n h
own_records_of-append_none n h l none =
    ap recs_of (of_transaction-append n h l ∙ ap (λ entries. of_transaction n h ++ entries) none ∙ append-nil (of_transaction n h))

pub own_records_of-none_append : (n : ℕ) (h l : List Placed) → of_transaction n h ≡ [] → own_records_of n (h ++ l) ≡ own_records_of n l
own_records_of-none_append n h l none = ap recs_of (of_transaction-append n h l ∙ ap (λ entries. entries ++ of_transaction n l) none)

pub of_transaction-others_none : (n : ℕ) (l : List Placed) → AllByRecursion (λ (other : Placed). n ≢ txn_of other.rec) l → of_transaction n l ≡ []
of_transaction-others_none n [] all = refl
of_transaction-others_none n (entry ∷ l) all = of_transaction-first_other n entry l (λ same. all.0 (sym same)) ∙ of_transaction-others_none n l all.1

-- an older history has none either
pub of_transaction-front_none : (n : ℕ) (later h : List Placed) → of_transaction n (later ++ h) ≡ [] → of_transaction n h ≡ []
of_transaction-front_none n later h none = behind (of_transaction n later) (of_transaction n h) (sym (of_transaction-append n later h) ∙ none)
  where
    behind : (xs ys : List Placed) → xs ++ ys ≡ [] → ys ≡ []
    behind [] ys empty = empty
    behind (x ∷ xs) ys empty = cc

pub share_none-of_transaction_none : (h l : List Placed) → ShareNoTransaction h l → AllByRecursion (λ (entry : Placed). of_transaction (txn_of entry.rec) l ≡ []) h
share_none-of_transaction_none [] l apart = tt
share_none-of_transaction_none (entry ∷ h) l apart = (of_transaction-others_none (txn_of entry.rec) l apart.0, share_none-of_transaction_none h l apart.1)

share_none-nil : (l : List Placed) → ShareNoTransaction l []
share_none-nil [] = tt
share_none-nil (entry ∷ l) = (tt, share_none-nil l)

share_none-more : (entry : Placed) (h l : List Placed) → AllByRecursion (λ (other : Placed). txn_of entry.rec ≢ txn_of other.rec) l
    → ShareNoTransaction l h → ShareNoTransaction l (entry ∷ h)
share_none-more entry h [] all apart = tt
share_none-more entry h (other ∷ l) all apart = (((λ same. all.0 (sym same)), apart.0), share_none-more entry h l all.1 apart.1)

pub share_none-sym : (h l : List Placed) → ShareNoTransaction h l → ShareNoTransaction l h
share_none-sym [] l apart = share_none-nil l
share_none-sym (entry ∷ h) l apart = share_none-more entry h l apart.0 (share_none-sym h l apart.1)

-- numbers below this one, and numbers from this one on
pub numbers_apart-share_none : (first : ℕ) (h l : List Placed) → AllByRecursion (λ (entry : Placed). first ≤ txn_of entry.rec) h
    → AllByRecursion (λ (entry : Placed). txn_of entry.rec < first) l → ShareNoTransaction h l
numbers_apart-share_none first [] l from below = tt
numbers_apart-share_none first (entry ∷ h) l from below = (each l below, numbers_apart-share_none first h l from.1 below)
  where
    each : (l : List Placed) → AllByRecursion (λ (entry : Placed). txn_of entry.rec < first) l → AllByRecursion (λ (other : Placed). txn_of entry.rec ≢ txn_of other.rec) l
    each [] below = tt
    each (other ∷ l) below = ((λ same. let high = from.0 in let low = below.0 in omega arith), each l below.1)

pub greatest_txn_below-all_below : (h : List Placed) (first : ℕ) → greatest_txn h < first → AllByRecursion (λ (entry : Placed). txn_of entry.rec < first) h
greatest_txn_below-all_below [] first most = tt
greatest_txn_below-all_below (entry ∷ h) first most = (omega arith, greatest_txn_below-all_below h first (omega arith))
