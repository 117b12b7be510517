-- Sums over a history, transaction by transaction.
use Rattle.std.proofs.Common.{◌≡◌, ◌≢◌, ℕ, ◌==◌, ◌||◌, ◌+◌, cond, Bool, true, false, true≢false, List, [], ◌∷◌, ◌++◌, refl, ap, ◌∙◌, sym, arith, eq-eqb, ne_eqb}
use Rattle.std.specs.List.{AllByRecursion}
use mathlib.Core.Logic.{dite}
use native.Mathlib.Decide.{ℕ_discrete}
use Rattle.log_record.specs.declared.rec.Rec.{Rec}
use Rattle.log_record.specs.declared.rec.Placed.{Placed}
use Rattle.lock_core.specs.History.{end_from, entry_at, history_from}
use Rattle.lock_core.specs.Records.{txn_of, without_prev}
use Rattle.lock_core.specs.Transactions.{of_transaction, recs_of, own_records_of, all_without_prev, in_order}
use Rattle.lock_core.specs.Serial.{NumberedTransfer, HasNoOthers}
use Rattle.lock_core.specs.AnyOrder.{weight_of}
use Rattle.lock_core.proofs.OneMore.{or_false-both_false, of_transaction-first_own}
use Rattle.lock_core.proofs.Apart.{of_transaction-front_none}

-- one of the transfers has this number
abbrev pub has_number : List NumberedTransfer → ℕ → Bool
has_number [] n = false
has_number (task ∷ tasks) n = (n == task.number) || has_number tasks n

-- no number stands twice
abbrev pub AreDistinct : List NumberedTransfer → Type 0
AreDistinct [] = Unit {0}
AreDistinct (task ∷ tasks) = (has_number tasks task.number ≡ false) × AreDistinct tasks

-- the sum over the transfers
abbrev pub each_task : (NumberedTransfer → ℕ) → List NumberedTransfer → ℕ
each_task amount [] = 0
each_task amount (task ∷ tasks) = amount task + each_task amount tasks

pub each_task-add : (f g : NumberedTransfer → ℕ) (tasks : List NumberedTransfer) → each_task (λ task. f task + g task) tasks ≡ each_task f tasks + each_task g tasks
each_task-add f g [] = refl
each_task-add f g (task ∷ tasks) = let more = each_task-add f g tasks in omega arith

pub each_task-same : (f g : NumberedTransfer → ℕ) (tasks : List NumberedTransfer) → AllByRecursion (λ task. f task ≡ g task) tasks → each_task f tasks ≡ each_task g tasks
each_task-same f g [] same = refl
each_task-same f g (task ∷ tasks) same = λ i. same.0 i + each_task-same f g tasks same.1 i

each_task-none : (tasks : List NumberedTransfer) → each_task (λ task. 0) tasks ≡ 0
each_task-none [] = refl
each_task-none (task ∷ tasks) = let more = each_task-none tasks in omega arith

-- an amount that is counted for one number
each_task-at : (amount n : ℕ) (tasks : List NumberedTransfer) → AreDistinct tasks
    → each_task (λ task. cond (n == task.number) amount 0) tasks ≡ cond (has_number tasks n) amount 0
each_task-at amount n [] distinct = refl
each_task-at amount n (task ∷ tasks) distinct =
    let more = each_task-at amount n tasks distinct.1 in
    dite (ℕ_discrete n task.number)
    (λ same.
    let here = eq-eqb n task.number same in
    let once : has_number tasks n ≡ false = ap (has_number tasks) same ∙ distinct.0 in
    let first : cond {A = ℕ} (n == task.number) amount 0 ≡ amount = ap (λ b. cond {A = ℕ} b amount 0) here in
    let rest : cond {A = ℕ} (has_number tasks n) amount 0 ≡ 0 = ap (λ b. cond {A = ℕ} b amount 0) once in
    let whole : cond {A = ℕ} ((n == task.number) || has_number tasks n) amount 0 ≡ amount = ap (λ b. cond {A = ℕ} (b || has_number tasks n) amount 0) here in
    omega arith)
    (λ other.
    let here = ne_eqb n task.number other in
    let first : cond {A = ℕ} (n == task.number) amount 0 ≡ 0 = ap (λ b. cond {A = ℕ} b amount 0) here in
    let whole : cond {A = ℕ} ((n == task.number) || has_number tasks n) amount 0 ≡ cond {A = ℕ} (has_number tasks n) amount 0 = ap (λ b. cond {A = ℕ} (b || has_number tasks n) amount 0) here in
    omega arith)

-- a number that none of them has
has_number-none : (tasks : List NumberedTransfer) (n : ℕ) → has_number tasks n ≡ false → AllByRecursion (λ (task : NumberedTransfer). task.number ≢ n) tasks
has_number-none [] n off = tt
has_number-none (task ∷ tasks) n off =
    let parts = or_false-both_false (n == task.number) (has_number tasks n) off in
    ((λ same. true≢false (sym (eq-eqb n task.number (sym same)) ∙ parts.0)), has_number-none tasks n parts.1)

-- each entry is of one of the transfers
has_number-entry : (tasks : List NumberedTransfer) (entry : Placed) (h : List Placed) → HasNoOthers tasks (entry ∷ h) → has_number tasks (txn_of entry.rec) ≡ true
has_number-entry tasks entry h others = by_case (has_number tasks (txn_of entry.rec)) refl
  where
    by_case : (b : Bool) → has_number tasks (txn_of entry.rec) ≡ b → b ≡ true
    by_case true is = refl
    by_case false is =
        let none = others (txn_of entry.rec) (has_number-none tasks (txn_of entry.rec) is) in
        let some = sym (of_transaction-first_own (txn_of entry.rec) entry h refl) ∙ none in cc

pub weight_of-entry : (weight : Rec → ℕ) (n : ℕ) (entry : Placed) (h : List Placed)
    → weight_of weight (own_records_of n (entry ∷ h)) ≡ cond (txn_of entry.rec == n) (weight entry.rec) 0 + weight_of weight (own_records_of n h)
weight_of-entry weight n entry h = by_case (txn_of entry.rec == n)
  where
    by_case : (b : Bool) → weight_of weight (recs_of (cond b (entry ∷ of_transaction n h) (of_transaction n h))) ≡ cond b (weight entry.rec) 0 + weight_of weight (own_records_of n h)
    by_case true = refl
    by_case false = omega arith

-- a sum over the history, transaction by transaction
pub weight_of-tasks : (weight : Rec → ℕ) (tasks : List NumberedTransfer) (h : List Placed) → AreDistinct tasks → HasNoOthers tasks h
    → weight_of weight (recs_of h) ≡ each_task (λ task. weight_of weight (own_records_of task.number h)) tasks
weight_of-tasks weight tasks [] distinct others = sym (each_task-none tasks)
weight_of-tasks weight tasks (entry ∷ h) distinct others =
    let more = weight_of-tasks weight tasks h distinct (λ txn none. of_transaction-front_none txn (entry ∷ []) h (others txn none)) in
    let at = each_task-at (weight entry.rec) (txn_of entry.rec) tasks distinct in
    let known : cond {A = ℕ} (has_number tasks (txn_of entry.rec)) (weight entry.rec) 0 ≡ weight entry.rec
    = ap (λ b. cond {A = ℕ} b (weight entry.rec) 0) (has_number-entry tasks entry h others) in
    let split : each_task (λ task. weight_of weight (own_records_of task.number (entry ∷ h))) tasks
    ≡ each_task (λ task. cond (txn_of entry.rec == task.number) (weight entry.rec) 0 + weight_of weight (own_records_of task.number h)) tasks
    = λ i. each_task (λ task. weight_of-entry weight task.number entry h i) tasks in
    let sum = each_task-add (λ task. cond (txn_of entry.rec == task.number) (weight entry.rec) 0) (λ task. weight_of weight (own_records_of task.number h)) tasks in
    omega arith

pub weight_of-append : (weight : Rec → ℕ) (xs ys : List Rec) → weight_of weight (xs ++ ys) ≡ weight_of weight xs + weight_of weight ys
weight_of-append weight [] ys = omega arith
weight_of-append weight (rec ∷ xs) ys = let more = weight_of-append weight xs ys in omega arith

pub weight_of-in_order : (weight : Rec → ℕ) (records rest : List Rec) → weight_of weight (in_order records rest) ≡ weight_of weight records + weight_of weight rest
weight_of-in_order weight [] rest = omega arith
weight_of-in_order weight (rec ∷ records) rest = let more = weight_of-in_order weight records (rec ∷ rest) in omega arith

-- a weight that `prev` doesn't change
abbrev pub IgnoresPrev : (Rec → ℕ) → Type 0
IgnoresPrev weight = (rec : Rec) → weight (without_prev rec) ≡ weight rec

pub weight_of-without_prev : (weight : Rec → ℕ) (records : List Rec) → IgnoresPrev weight → weight_of weight (all_without_prev records) ≡ weight_of weight records
weight_of-without_prev weight [] ignores = refl
weight_of-without_prev weight (rec ∷ records) ignores = λ i. ignores rec i + weight_of-without_prev weight records ignores i

-- the history of records has their weight
pub weight_of-history : (weight : Rec → ℕ) (start : ℕ) (h : List Placed) (records : List Rec)
    → weight_of weight (recs_of (history_from start h records)) ≡ weight_of weight (recs_of h) + weight_of weight records
weight_of-history weight start h [] = omega arith
weight_of-history weight start h (rec ∷ records) =
    let more = weight_of-history weight start (entry_at (end_from start h) rec ∷ h) records in omega arith
