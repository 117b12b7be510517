-- The history up to an LSN is that of the records that end at or below it.
use Rattle.std.proofs.Common.{◌≡◌, ◌≤◌, ◌<◌, ℕ, ◌-◌, cond, List, [], ◌∷◌, refl, ap, ◌∙◌, sym, arith, le-leb}
use Rattle.std.proofs.lemmas.Bool.{lt-leb}
use mathlib.Core.Logic.{dite}
use native.Mathlib.Decide.{dec_lt}
use Rattle.log_record.specs.declared.rec.Rec.{Rec}
use Rattle.log_record.specs.declared.rec.Placed.{Placed}
use Rattle.log_record.specs.LogList.{size_of, prefix_to}
use Rattle.lock_core.specs.History.{end_from, entry_at, history_from}
use Rattle.ledger_view.specs.Entries.{front_to}

pub front_to-past : (entry : Placed) (h : List Placed) (lsn : ℕ) → lsn < entry.end → front_to (entry ∷ h) lsn ≡ front_to h lsn
front_to-past entry h lsn past = ap (λ b. cond b (entry ∷ h) (front_to h lsn)) (lt-leb entry.end lsn past)

-- all of a history that ends at or below the LSN
pub front_to-whole : (start : ℕ) (h : List Placed) (lsn : ℕ) → end_from start h ≤ lsn → front_to h lsn ≡ h
front_to-whole start [] lsn below = refl
front_to-whole start (entry ∷ h) lsn below = ap (λ b. cond b (entry ∷ h) (front_to h lsn)) (le-leb entry.end lsn below)

-- nothing of what stands behind it
front_to-behind : (start : ℕ) (entry : Placed) (h : List Placed) (records : List Rec) (lsn : ℕ) → lsn < entry.end
    → front_to (history_from start (entry ∷ h) records) lsn ≡ front_to h lsn
front_to-behind start entry h [] lsn past = front_to-past entry h lsn past
front_to-behind start entry h (rec ∷ records) lsn past =
    front_to-behind start (entry_at entry.end rec) (entry ∷ h) records lsn (omega arith) ∙ front_to-past entry h lsn past

pub front_to-prefix : (start : ℕ) (h : List Placed) (records : List Rec) (lsn : ℕ) → end_from start h ≤ lsn
    → front_to (history_from start h records) lsn ≡ history_from start h (prefix_to records (lsn - end_from start h))
front_to-prefix start h [] lsn below = front_to-whole start h lsn below
front_to-prefix start h (rec ∷ records) lsn below = dite (dec_lt lsn (entry_at (end_from start h) rec).end)
    (λ past. let small : (lsn - end_from start h) < size_of rec = omega arith in
    front_to-behind start (entry_at (end_from start h) rec) h records lsn past
    ∙ front_to-whole start h lsn below
    ∙ sym (ap (λ b. history_from start h (cond b (rec ∷ prefix_to records ((lsn - end_from start h) - size_of rec)) [])) (lt-leb (size_of rec) (lsn - end_from start h) small)))
    (λ not_past. let fits : size_of rec ≤ (lsn - end_from start h) = omega arith in
    let rest : (lsn - (entry_at (end_from start h) rec).end) ≡ ((lsn - end_from start h) - size_of rec) = omega arith in
    front_to-prefix start (entry_at (end_from start h) rec ∷ h) records lsn (omega arith)
    ∙ ap (λ n. history_from start (entry_at (end_from start h) rec ∷ h) (prefix_to records n)) rest
    ∙ sym (ap (λ b. history_from start h (cond b (rec ∷ prefix_to records ((lsn - end_from start h) - size_of rec)) [])) (le-leb (size_of rec) (lsn - end_from start h) fits)))
