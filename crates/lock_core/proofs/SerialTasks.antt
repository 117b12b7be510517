-- A history that is partly serial for some transfers is so for more of which it has no record.
use Rattle.std.proofs.Common.{◌≡◌, ◌≢◌, ◌⊎◌, inr, ⊎_elim, ℕ, List, [], ◌∷◌, ap, Contains}
use Rattle.std.specs.List.{AllByRecursion}
use Rattle.std.proofs.lemmas.List.Elements.{All-contains, All-from_recursion}
use Rattle.log_record.specs.declared.rec.Placed.{Placed}
use Rattle.lock_core.specs.Alone.{with_note, leg_updates}
use Rattle.lock_core.specs.Sums.{BaseState}
use Rattle.lock_core.specs.Transactions.{of_transaction, recs_of, all_without_prev, in_order}
use Rattle.lock_core.specs.Serial.{NumberedTransfer, IsRunWhole, IsCutShort, IsPartlySerialAfter}

-- the number is none of these transfers'
abbrev pub IsNoNumberOf : List NumberedTransfer → ℕ → Type 0
IsNoNumberOf tasks txn = AllByRecursion (λ (task : NumberedTransfer). task.number ≢ txn) tasks

cut_short-none : (h : List Placed) (task : NumberedTransfer) → of_transaction task.number h ≡ [] → IsCutShort h task
cut_short-none h task none = record {
  rest = with_note task.number task.job.note (leg_updates task.number task.job.legs);
  front = ap (λ entries. in_order (all_without_prev (recs_of entries)) (with_note task.number task.job.note (leg_updates task.number task.job.legs))) none;
}

no_number-fewer : (some all : List NumberedTransfer) (txn : ℕ) → AllByRecursion (Contains all) some → IsNoNumberOf all txn → IsNoNumberOf some txn
no_number-fewer [] all txn among none = tt
no_number-fewer (task ∷ some) all txn among none = (
  All-contains (λ (other : NumberedTransfer). other.number ≢ txn) all task (All-from_recursion (λ (other : NumberedTransfer). other.number ≢ txn) all none) among.0,
  no_number-fewer some all txn among.1 none,
)

pub partly_serial-more : (base : BaseState) (some all : List NumberedTransfer) (h : List Placed) → AllByRecursion (Contains all) some
    → AllByRecursion (λ (task : NumberedTransfer). Contains some task ⊎ IsNoNumberOf some task.number) all
    → IsPartlySerialAfter base some h → IsPartlySerialAfter base all h
partly_serial-more base some all h among each serial = record {
  each = all-of all each;
  others = λ txn none. serial.others txn (no_number-fewer some all txn among none);
}
  where
    all-of : (tasks : List NumberedTransfer) → AllByRecursion (λ (task : NumberedTransfer). Contains some task ⊎ IsNoNumberOf some task.number) tasks
        → AllByRecursion (λ task. IsRunWhole base h task ⊎ IsCutShort h task) tasks
    all-of [] each = tt
    all-of (task ∷ tasks) each = (
      ⊎_elim
          (λ among. All-contains (λ task. IsRunWhole base h task ⊎ IsCutShort h task) some task
          (All-from_recursion (λ task. IsRunWhole base h task ⊎ IsCutShort h task) some serial.each) among)
          (λ none. inr (cut_short-none h task (serial.others task.number none)))
          each.0,
      all-of tasks each.1,
    )
