-- The history of a list that goes on from the opened one.
use Rattle.std.proofs.Common.{◌≡◌, ◌≢◌, ◌<◌, ◌≤◌, ℕ, List, [], ◌∷◌, ◌++◌, length, refl, ap, sym, ◌∙◌, arith, drop, length-append}
use Rattle.std.proofs.Math.Seq.{drop-append_seam}
use Rattle.std.specs.List.{AllByRecursion}
use mathlib.Core.Logic.{dite}
use native.Mathlib.Decide.{dec_lt}
use Rattle.log_record.specs.declared.rec.Rec.{Rec}
use Rattle.log_record.specs.declared.rec.Placed.{Placed}
use Rattle.lock_core.specs.Records.{txn_of}
use Rattle.lock_core.specs.Sums.{greatest_txn}
use Rattle.lock_core.specs.Transactions.{of_transaction, own_records_of}
use Rattle.lock_core.proofs.Apart.{own_records_of-append_none, of_transaction-others_none, greatest_txn_below-all_below}
use Rattle.lock_core.proofs.OneMore.{of_transaction-first_other}
use Rattle.lock_core.specs.History.{end_from, entry_at, history_from}
use Rattle.lock_core.proofs.Fronts.{history_from-append, history_from-extends, history_from-split}
use Rattle.log_recovery.specs.Opened.{OpenedList, list_end, placed, with_records}
use Rattle.log_recovery.proofs.OpenedLemmas.{placed-end}

-- what follows the opened list
abbrev pub later_of : OpenedList → List Rec → List Placed
later_of opened records = history_from (list_end opened) [] records

pub placed-with_records : (opened : OpenedList) (records : List Rec) → placed (with_records opened records) ≡ later_of opened records ++ placed opened
placed-with_records opened records =
    history_from-append opened.opening.lsn [] opened.records records ∙ history_from-split opened.opening.lsn (placed opened) records
    ∙ ap (λ end. history_from end [] records ++ placed opened) (placed-end opened)

-- of a transaction above all of the opened list the whole has what follows that list
pub own_records_of-later : (opened : OpenedList) (records : List Rec) (n : ℕ) → greatest_txn (placed opened) < n
    → own_records_of n (placed (with_records opened records)) ≡ own_records_of n (later_of opened records)
own_records_of-later opened records n below = ap (own_records_of n) (placed-with_records opened records)
    ∙ own_records_of-append_none n (later_of opened records) (placed opened)
    (of_transaction-others_none n (placed opened) (other (placed opened) (greatest_txn_below-all_below (placed opened) n below)))
  where
    other : (h : List Placed) → AllByRecursion (λ (entry : Placed). txn_of entry.rec < n) h
        → AllByRecursion (λ (entry : Placed). n ≢ txn_of entry.rec) h
    other [] all = tt
    other (entry ∷ h) all = (λ same. let low = all.0 in omega arith, other h all.1)

-- records of other transactions bring it no entry
pub of_transaction-pushed_others : (n start : ℕ) (h : List Placed) (records : List Rec) → AllByRecursion (λ (rec : Rec). txn_of rec ≢ n) records
    → of_transaction n h ≡ [] → of_transaction n (history_from start h records) ≡ []
of_transaction-pushed_others n start h [] others none = none
of_transaction-pushed_others n start h (rec ∷ records) others none =
    of_transaction-pushed_others n start (entry_at (end_from start h) rec ∷ h) records others.1
    (of_transaction-first_other n (entry_at (end_from start h) rec) h others.0 ∙ none)

-- more records stand before
pub later-append : (opened : OpenedList) (front rest : List Rec) → (more : List Placed) × (later_of opened (front ++ rest) ≡ more ++ later_of opened front)
later-append opened front rest = (
  history_from (end_from (list_end opened) (later_of opened front)) [] rest,
  history_from-append (list_end opened) [] front rest ∙ history_from-split (list_end opened) (later_of opened front) rest,
)

-- ends of one list of the same length are the same
end-same : {A : Type 0} (xs ys a b : List A) → xs ++ a ≡ ys ++ b → length a ≡ length b → a ≡ b
end-same xs ys a b whole long =
    let count : length xs ≡ length ys = omega (arith, long, ap length whole, length-append xs a, length-append ys b) in
    sym (drop-append_seam xs a) ∙ (λ i. drop (count i) (whole i)) ∙ drop-append_seam ys b

-- a front of a history is the history of a front of its records
pub history-front : (start : ℕ) (records : List Rec) (later front : List Placed) → history_from start [] records ≡ later ++ front
    → (before rest : List Rec) × (records ≡ before ++ rest) × (front ≡ history_from start [] before)
history-front start records later front whole = onto [] records (omega arith) whole
  where
    IsFrontOf : List Placed → List Rec → Type 0
    IsFrontOf h records = (before rest : List Rec) × (records ≡ before ++ rest) × (front ≡ history_from start h before)

    onto : (h : List Placed) (records : List Rec) → length h ≤ length front → history_from start h records ≡ later ++ front
        → IsFrontOf h records
    onto h [] short whole =
        let long = length-append later front in let both = ap length whole in
        ([], [], refl, end-same later [] front h (sym whole) (omega arith))
    onto h (rec ∷ records) short whole = dite (dec_lt (length h) (length front))
        (λ less. let more = onto (entry_at (end_from start h) rec ∷ h) records (omega arith) whole in
        (rec ∷ more.0, more.1, ap (λ l. rec ∷ l) more.2, more.3))
        (λ same. let below = history_from-extends start h (rec ∷ records) in
        ([], rec ∷ records, refl, end-same later below.0 front h (sym whole ∙ below.1) (omega arith)))
