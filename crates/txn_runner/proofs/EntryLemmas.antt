-- Entries behind others: their records, by numbers, and their places.
use Rattle.std.proofs.Common.{◌≡◌, ◌≢◌, ◌∙◌, ℕ, ◌+◌, ◌≤◌, ◌==◌, cond, List, [], ◌∷◌, ◌++◌, filter, refl, ap, arith, eq-eqb}
use Rattle.std.proofs.lemmas.Bool.{ne_eqb}
use Rattle.std.proofs.lemmas.List.Elements.{filter-append}
use Rattle.std.specs.List.{AllByRecursion}
use Rattle.log_record.specs.declared.rec.Rec.{Rec}
use Rattle.lock_core.specs.Records.{txn_of}
use Rattle.log_rule.specs.declared.view.Entry.{Entry}
use Rattle.log_rule.specs.ClosedLog.{records_of}
use Rattle.txn_making.proofs.Adding.{LieInOrder-weaken_from}
use Rattle.txn_runner.specs.Running.{LieInOrder}
use Rattle.txn_runner.specs.Working.{own_records}

pub records_of-append : (xs ys : List Entry) → records_of (xs ++ ys) ≡ records_of xs ++ records_of ys
records_of-append [] ys = refl
records_of-append (x ∷ xs) ys = ap (λ records. x.rec ∷ records) (records_of-append xs ys)

-- what holds of the records holds of each entry's
pub records_of-all : (P : Rec → Type 0) (xs : List Entry) → AllByRecursion P (records_of xs) → AllByRecursion (λ (entry : Entry). P entry.rec) xs
records_of-all P [] all = tt
records_of-all P (x ∷ xs) all = (all.0, records_of-all P xs all.1)

pub own_records-append : (number : ℕ) (xs ys : List Entry) → own_records number (xs ++ ys) ≡ own_records number xs ++ own_records number ys
own_records-append number xs ys = ap (filter (λ rec. txn_of rec == number)) (records_of-append xs ys)
    ∙ filter-append (λ rec. txn_of rec == number) (records_of xs) (records_of ys)

pub own_records-none : (number : ℕ) (xs : List Entry) → AllByRecursion (λ (entry : Entry). txn_of entry.rec ≢ number) xs → own_records number xs ≡ []
own_records-none number [] others = refl
own_records-none number (x ∷ xs) others =
    ap (λ b. cond b (x.rec ∷ own_records number xs) (own_records number xs)) (ne_eqb (txn_of x.rec) number others.0)
    ∙ own_records-none number xs others.1

pub own_records-all : (number : ℕ) (xs : List Entry) → AllByRecursion (λ (entry : Entry). txn_of entry.rec ≡ number) xs
    → own_records number xs ≡ records_of xs
own_records-all number [] own = refl
own_records-all number (x ∷ xs) own =
    ap (λ b. cond b (x.rec ∷ own_records number xs) (own_records number xs)) (eq-eqb (txn_of x.rec) number own.0)
    ∙ ap (λ records. x.rec ∷ records) (own_records-all number xs own.1)

pub LieInOrder-le : (from to : ℕ) (xs : List Entry) → LieInOrder from to xs → from ≤ to
LieInOrder-le from to [] order = order
LieInOrder-le from to (x ∷ xs) order = omega (arith, order.0, LieInOrder-le (x.start + x.size) to xs order.1)

-- each starts at the first LSN or above it, and ends at the last or below it
pub LieInOrder-starts : (from to : ℕ) (xs : List Entry) → LieInOrder from to xs → AllByRecursion (λ (entry : Entry). from ≤ entry.start) xs
LieInOrder-starts from to [] order = tt
LieInOrder-starts from to (x ∷ xs) order =
    (order.0, LieInOrder-starts from to xs (LieInOrder-weaken_from from (x.start + x.size) to xs (omega (arith, order.0)) order.1))

pub LieInOrder-ends : (from to : ℕ) (xs : List Entry) → LieInOrder from to xs → AllByRecursion (λ (entry : Entry). entry.start + entry.size ≤ to) xs
LieInOrder-ends from to [] order = tt
LieInOrder-ends from to (x ∷ xs) order = (LieInOrder-le (x.start + x.size) to xs order.1, LieInOrder-ends (x.start + x.size) to xs order.1)
