-- The records of one transaction, out of records in order, and the one that comes next by the records of an outcome.
use Rattle.std.proofs.Common.{◌≡◌, ℕ, zero, suc, ◌==◌, ◌||◌, cond, Bool, true, false, List, [], ◌∷◌, ◌++◌, filter, refl, ap, ◌∙◌, sym, arith, eq-eqb, Contains}
use Rattle.std.proofs.lemmas.List.{append-nil}
use Rattle.log_record.specs.declared.rec.Rec.{Rec}
use Rattle.log_record.specs.declared.rec.Placed.{Placed}
use Rattle.log_record.specs.declared.rec.Rec.TheVariants.{Genesis, Update, Commit, Short, Over, Note}
use Rattle.log_record.specs.LogList.{size_of}
use Rattle.lock_core.specs.Records.{txn_of, ends, without_prev}
use Rattle.lock_core.specs.Transactions.{of_transaction, recs_of, own_records_of, has_end, all_without_prev, in_order}
use Rattle.lock_core.specs.History.{end_from, entry_at, history_from}
use Rattle.lock_core.specs.Alone.{PlainTransfer, Outcome, outcome_alone, outcome_records, planned_records}
use Rattle.lock_core.proofs.OneMore.{or_false-both_false, or-false, or-true}
use Rattle.lock_core.proofs.Running.{outcome_records-before_end_front, note_and_updates-front_unended, all_without_prev-in_order, planned_records-without_prev, planned_records-outcome}
use Rattle.lock_core.proofs.SerialFronts.{has_end-without_prev}

-- the records of the transaction
abbrev pub own_of : ℕ → List Rec → List Rec
own_of n records = filter (λ rec. txn_of rec == n) records

pub own_records_of-history_from : (n start : ℕ) (h : List Placed) (records rest : List Rec)
    → in_order (own_records_of n (history_from start h records)) rest ≡ in_order (own_records_of n h) (own_of n records ++ rest)
own_records_of-history_from n start h [] rest = refl
own_records_of-history_from n start h (rec ∷ records) rest =
    own_records_of-history_from n start (entry_at (end_from start h) rec ∷ h) records rest ∙ by_case (txn_of rec == n)
  where
    entry : Placed
    entry = entry_at (end_from start h) rec

    by_case : (b : Bool) → in_order (recs_of (cond b (entry ∷ of_transaction n h) (of_transaction n h))) (own_of n records ++ rest)
        ≡ in_order (own_records_of n h) (cond b (rec ∷ own_of n records) (own_of n records) ++ rest)
    by_case true = refl
    by_case false = refl

pub has_end-in_order : (records rest : List Rec) → has_end (in_order records rest) ≡ (has_end records || has_end rest)
has_end-in_order [] rest = refl
has_end-in_order (rec ∷ records) rest = has_end-in_order records (rec ∷ rest) ∙ turned (has_end records) (ends rec) (has_end rest)
  where
    turned : (x y z : Bool) → (x || (y || z)) ≡ ((y || x) || z)
    turned true true z = refl
    turned true false z = refl
    turned false true z = refl
    turned false false z = refl

-- the transaction has an end record where one is among the records
own-end : (n : ℕ) (records : List Rec) (end : Rec) → Contains records end → txn_of end ≡ n → ends end ≡ true → has_end (own_of n records) ≡ true
own-end n [] end is own on = absurd (let none = is.1 in omega arith)
own-end n (rec ∷ records) end (zero, inside, at) own on = ap (λ b. has_end (cond b (rec ∷ own_of n records) (own_of n records))) (eq-eqb (txn_of rec) n (ap txn_of at ∙ own))
    ∙ (λ j. ends (at j) || has_end (own_of n records)) ∙ ap (λ b. b || has_end (own_of n records)) on
own-end n (rec ∷ records) end (suc k, inside, at) own on = by_case (txn_of rec == n) (own-end n records end (k, omega arith, at) own on)
  where
    by_case : (b : Bool) → has_end (own_of n records) ≡ true → has_end (cond b (rec ∷ own_of n records) (own_of n records)) ≡ true
    by_case true rest = ap (λ later. ends rec || later) rest ∙ or-true (ends rec)
    by_case false rest = rest

pub contains_end-has_end : (n start : ℕ) (records : List Rec) (end : Rec) → Contains records end → txn_of end ≡ n → ends end ≡ true
    → has_end (own_records_of n (history_from start [] records)) ≡ true
contains_end-has_end n start records end is own on =
    let found : List Rec = own_records_of n (history_from start [] records) in
    sym (or-false (has_end found)) ∙ sym (has_end-in_order found [])
    ∙ ap has_end (own_records_of-history_from n start [] records [] ∙ append-nil (own_of n records)) ∙ own-end n records end is own on

-- the newest of records that follow others
abbrev Newest : List Rec → Rec → List Rec → Type 0
Newest rest next records = (end : Rec) × (older : List Rec) × (in_order rest (next ∷ records) ≡ end ∷ older) × (has_end older ≡ false → has_end records ≡ false)

newest : (rest : List Rec) (next : Rec) (records : List Rec) → Newest rest next records
newest [] next records = (next, records, refl, λ off. off)
newest (rec ∷ rest) next records =
    let found = newest rest rec (next ∷ records) in
    (found.0, found.1, found.2, λ off. (or_false-both_false (ends next) (has_end records) (found.3 off)).1)

turned : (records rest : List Rec) → in_order (in_order rest records) [] ≡ in_order records rest
turned records [] = refl
turned records (rec ∷ rest) = turned (rec ∷ records) rest

-- where records of an outcome are to come, there is no end record yet
pub outcome_records-front_unended : (txn : ℕ) (job : PlainTransfer) (outcome : Outcome) (records rest : List Rec) (next : Rec)
    → in_order (all_without_prev records) (next ∷ rest) ≡ outcome_records txn job outcome → has_end records ≡ false
outcome_records-front_unended txn job outcome records rest next plan =
    let found = newest rest next (all_without_prev records) in
    let whole = ap (λ l. in_order l []) (sym found.2) ∙ turned (next ∷ all_without_prev records) rest ∙ plan in
    let before = outcome_records-before_end_front txn job outcome found.1 found.0 whole in
    sym (has_end-without_prev records) ∙ found.3 (note_and_updates-front_unended txn job found.1 before.0 before.1)

-- what is to come by the records leg by leg is so by those of the outcome
pub planned_next-outcome_next : (txn : ℕ) (job : PlainTransfer) (last_commit balance : ℕ → ℕ) (records rest : List Rec) (next : Rec)
    → in_order records (next ∷ rest) ≡ planned_records txn job last_commit balance
    → in_order (all_without_prev records) (without_prev next ∷ all_without_prev rest) ≡ outcome_records txn job (outcome_alone job balance)
planned_next-outcome_next txn job last_commit balance records rest next plan =
    sym (all_without_prev-in_order records (next ∷ rest)) ∙ ap all_without_prev plan
    ∙ planned_records-without_prev txn job last_commit balance ∙ planned_records-outcome txn job balance

pub size-without_prev : (rec : Rec) → size_of (without_prev rec) ≡ size_of rec
size-without_prev (Genesis account balance) = refl
size-without_prev (Update txn account delta prev) = refl
size-without_prev (Commit txn legs) = refl
size-without_prev (Short txn leg) = refl
size-without_prev (Over txn leg) = refl
size-without_prev (Note txn text) = refl
