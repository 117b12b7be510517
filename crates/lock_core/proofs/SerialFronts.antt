-- A front of a partly serial history is partly serial; and what one entry of another transaction leaves.
use Rattle.std.proofs.Common.{◌≡◌, ◌≢◌, ◌≤◌, ◌⊎◌, inl, inr, ℕ, ◌+◌, ◌||◌, true, true≢false, List, [], ◌∷◌, ◌++◌, refl, ap, ◌∙◌, sym, subst, arith}
use Rattle.std.specs.List.{AllByRecursion}
use mathlib.Core.Logic.{dite}
use native.Mathlib.Decide.{ℕ_discrete, dec_le}
use Rattle.log_record.specs.declared.rec.Rec.{Rec}
use Rattle.log_record.specs.declared.rec.Placed.{Placed}
use Rattle.log_record.specs.declared.rec.Rec.TheVariants.{Genesis, Update, Commit, Short, Over, Note}
use Rattle.lock_core.specs.Records.{txn_of, ends, without_prev}
use Rattle.lock_core.specs.Transactions.{of_transaction, recs_of, own_records_of, has_end, all_without_prev, in_order}
use Rattle.lock_core.specs.Sums.{BaseState, balance_of}
use Rattle.lock_core.specs.Alone.{PlainTransfer, outcome_alone, outcome_records}
use Rattle.lock_core.specs.Serial.{NumberedTransfer, numbered, IsRunWhole, IsCutShort, HasNoOthers, IsSerialAfter, IsPartlySerialAfter}
use Rattle.lock_core.proofs.OneMore.{of_transaction-first_own, of_transaction-first_other}
use Rattle.lock_core.proofs.Apart.{of_transaction-front_none}
use Rattle.lock_core.proofs.Running.{outcome_records-before_end_front, note_and_updates-front_unended}

pub all-weaken : {X : Type 0} (P Q : X → Type 0) → ((x : X) → P x → Q x) → (xs : List X) → AllByRecursion P xs → AllByRecursion Q xs
all-weaken P Q f [] all = tt
all-weaken P Q f (x ∷ xs) all = (f x all.0, all-weaken P Q f xs all.1)

-- one record less
cut_short-before : (entry : Placed) (h : List Placed) (task : NumberedTransfer) → IsCutShort (entry ∷ h) task → IsCutShort h task
cut_short-before entry h task cut = dite (ℕ_discrete (txn_of entry.rec) task.number)
    (λ same. record {
      rest = without_prev entry.rec ∷ cut.rest;
      front = ap (λ entries. in_order (all_without_prev (recs_of entries)) cut.rest) (sym (of_transaction-first_own task.number entry h same)) ∙ cut.front;
    })
    (λ other. record {
      rest = cut.rest;
      front = ap (λ entries. in_order (all_without_prev (recs_of entries)) cut.rest) (sym (of_transaction-first_other task.number entry h other)) ∙ cut.front;
    })

abbrev pub IsRunPartly : BaseState → List Placed → NumberedTransfer → Type 0
IsRunPartly base h task = IsRunWhole base h task ⊎ IsCutShort h task

-- without its end record a transfer is cut short
pub outcome_records-front_cut_short : (base : BaseState) (entry : Placed) (h : List Placed) (task : NumberedTransfer)
    → in_order (all_without_prev (entry.rec ∷ own_records_of task.number h)) [] ≡ outcome_records task.number task.job (outcome_alone task.job (balance_of base h))
    → IsCutShort h task
outcome_records-front_cut_short base entry h task are =
    let found = outcome_records-before_end_front task.number task.job (outcome_alone task.job (balance_of base h)) (all_without_prev (own_records_of task.number h)) (without_prev entry.rec) are in
    record { rest = found.0; front = found.1 }

run_partly-before : (base : BaseState) (entry : Placed) (h : List Placed) (task : NumberedTransfer) → IsRunPartly base (entry ∷ h) task → IsRunPartly base h task
run_partly-before base entry h task (inr cut) = inr (cut_short-before entry h task cut)
run_partly-before base entry h task (inl run) = by_later run.later run.whole run.last
  where
    by_later : (later : List Placed) → entry ∷ h ≡ later ++ run.end ∷ run.front → of_transaction task.number later ≡ [] → IsRunPartly base h task
    by_later [] whole last =
        let entries : entry ≡ run.end = cc whole in
        let fronts : h ≡ run.front = cc whole in
        inr (outcome_records-front_cut_short base entry h task
        (subst (λ (e : Placed). in_order (all_without_prev (e.rec ∷ own_records_of task.number h)) [] ≡ outcome_records task.number task.job (outcome_alone task.job (balance_of base h))) (sym entries)
        (subst (λ (f : List Placed). in_order (all_without_prev (run.end.rec ∷ own_records_of task.number f)) []
        ≡ outcome_records task.number task.job (outcome_alone task.job (balance_of base f))) (sym fronts)
        run.records)))
    by_later (newest ∷ later) whole last =
        let rest : h ≡ later ++ run.end ∷ run.front = cc whole in
        inl (record {
          later = later;
          end = run.end;
          front = run.front;
          whole = rest;
          own = run.own;
          ended = run.ended;
          last = of_transaction-front_none task.number (newest ∷ []) later last;
          records = run.records;
        })

pub partly_serial-front : (base : BaseState) (tasks : List NumberedTransfer) (later h : List Placed) → IsPartlySerialAfter base tasks (later ++ h) → IsPartlySerialAfter base tasks h
partly_serial-front base tasks [] h serial = serial
partly_serial-front base tasks (entry ∷ later) h serial = partly_serial-front base tasks later h (record {
  each = all-weaken (IsRunPartly base (entry ∷ (later ++ h))) (IsRunPartly base (later ++ h)) (run_partly-before base entry (later ++ h)) tasks serial.each;
  others = λ txn none. of_transaction-front_none txn (entry ∷ []) (later ++ h) (serial.others txn none);
})

-- a serial history is partly serial, and a partly serial one in which each transfer has an end record is serial
pub serial-partly : (base : BaseState) (tasks : List NumberedTransfer) (h : List Placed) → IsSerialAfter base tasks h → IsPartlySerialAfter base tasks h
serial-partly base tasks h serial = record {
  each = all-weaken (IsRunWhole base h) (IsRunPartly base h) (λ task run. inl run) tasks serial.each;
  others = serial.others;
}

ends-without_prev : (rec : Rec) → ends (without_prev rec) ≡ ends rec
ends-without_prev (Genesis account balance) = refl
ends-without_prev (Update txn account delta prev) = refl
ends-without_prev (Commit txn legs) = refl
ends-without_prev (Short txn leg) = refl
ends-without_prev (Over txn leg) = refl
ends-without_prev (Note txn text) = refl

pub has_end-without_prev : (records : List Rec) → has_end (all_without_prev records) ≡ has_end records
has_end-without_prev [] = refl
has_end-without_prev (rec ∷ records) = λ i. ends-without_prev rec i || has_end-without_prev records i

pub partly_serial-all_ended_serial : (base : BaseState) (tasks : List NumberedTransfer) (h : List Placed) → AllByRecursion (λ
    (task : NumberedTransfer). has_end (own_records_of task.number h) ≡ true) tasks
    → IsPartlySerialAfter base tasks h → IsSerialAfter base tasks h
partly_serial-all_ended_serial base tasks h ended serial = record { each = each tasks ended serial.each; others = serial.others }
  where
    whole : (task : NumberedTransfer) → has_end (own_records_of task.number h) ≡ true → IsRunPartly base h task → IsRunWhole base h task
    whole task on (inl run) = run
    whole task on (inr cut) = absurd (true≢false (sym on ∙ sym (has_end-without_prev (own_records_of task.number h))
        ∙ note_and_updates-front_unended task.number task.job (all_without_prev (own_records_of task.number h)) cut.rest cut.front))

    each : (tasks : List NumberedTransfer) → AllByRecursion (λ (task : NumberedTransfer). has_end (own_records_of task.number h) ≡ true) tasks → AllByRecursion (IsRunPartly base h) tasks
        → AllByRecursion (IsRunWhole base h) tasks
    each [] ended runs = tt
    each (task ∷ tasks) ended runs = (whole task ended.0 runs.0, each tasks ended.1 runs.1)

-- an entry of another transaction leaves what the history has of a transfer
pub run_partly-other : (base : BaseState) (entry : Placed) (h : List Placed) (task : NumberedTransfer) → txn_of entry.rec ≢ task.number → IsRunPartly base h task → IsRunPartly base (entry ∷ h) task
run_partly-other base entry h task other (inl run) = inl (record {
  later = entry ∷ run.later;
  end = run.end;
  front = run.front;
  whole = ap (λ l. entry ∷ l) run.whole;
  own = run.own;
  ended = run.ended;
  last = of_transaction-first_other task.number entry run.later other ∙ run.last;
  records = run.records;
})
run_partly-other base entry h task other (inr cut) = inr (record {
  rest = cut.rest;
  front = ap (λ entries. in_order (all_without_prev (recs_of entries)) cut.rest) (of_transaction-first_other task.number entry h other) ∙ cut.front;
})

-- what follows has transactions of the given numbers alone
pub no_others-numbers_from : (first : ℕ) (tasks : List NumberedTransfer) (h : List Placed) → AllByRecursion (λ (task : NumberedTransfer). first ≤ task.number) tasks → HasNoOthers tasks h
    → AllByRecursion (λ (entry : Placed). first ≤ txn_of entry.rec) h
no_others-numbers_from first tasks [] from others = tt
no_others-numbers_from first tasks (entry ∷ h) from others = (
  dite (dec_le first (txn_of entry.rec)) (λ high. high) (λ low. absurd (clash (others (txn_of entry.rec) (none tasks from low)))),
  no_others-numbers_from first tasks h from (λ txn none. of_transaction-front_none txn (entry ∷ []) h (others txn none)),
)
  where
    none : (tasks : List NumberedTransfer) → AllByRecursion (λ (task : NumberedTransfer). first ≤ task.number) tasks → (first ≤ txn_of entry.rec → ⊥)
        → AllByRecursion (λ (task : NumberedTransfer). task.number ≢ txn_of entry.rec) tasks
    none [] from low = tt
    none (task ∷ tasks) from low = ((λ same. low (subst (λ n. first ≤ n) same from.0)), none tasks from.1 low)

    clash : of_transaction (txn_of entry.rec) (entry ∷ h) ≡ [] → ⊥
    clash empty = let some = sym (of_transaction-first_own (txn_of entry.rec) entry h refl) ∙ empty in cc

pub numbered-from : (first : ℕ) (jobs : List PlainTransfer) → AllByRecursion (λ (task : NumberedTransfer). first ≤ task.number) (numbered first jobs)
numbered-from first jobs = each first jobs (omega arith)
  where
    each : (next : ℕ) (jobs : List PlainTransfer) → first ≤ next → AllByRecursion (λ (task : NumberedTransfer). first ≤ task.number) (numbered next jobs)
    each next [] high = tt
    each next (job ∷ jobs) high = (high, each (next + 1) jobs (omega arith))
