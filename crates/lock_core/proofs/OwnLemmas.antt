-- How the records of one transaction are gathered, entry by entry.
use Rattle.std.proofs.Common.{◌≡◌, ◌<◌, ◌≤◌, ℕ, ◌+◌, Bool, List, [], ◌∷◌, ◌++◌, length, take, drop, reverse, get_or, ap, ◌∙◌, sym, arith, length-append}
use Rattle.std.proofs.lemmas.List.{reverse-append, take_more, take-append-drop}
use mathlib.Core.Logic.{dite}
use native.Mathlib.Decide.{ℕ_discrete}
use Rattle.log_record.specs.declared.rec.Placed.{Placed}
use Rattle.lock_core.specs.declared.update.Change.{Change}
use Rattle.lock_core.specs.Records.{txn_of, changes_of}
use Rattle.lock_core.specs.Transactions.{own_records_of, updates_of, has_end}
use Rattle.lock_core.proofs.OneMore.{updates_of-first_own, updates_of-first_other}

-- one entry further, the history has that entry in front
pub reverse-take_more : (entries : List Placed) (i : ℕ) (entry : Placed) → i < length entries → entry ≡ get_or entries i entry
    → reverse (take (i + 1) entries) ≡ entry ∷ reverse (take i entries)
reverse-take_more entries i entry inside is =
    ap reverse (take_more entries i entry inside) ∙ ap (λ x. reverse (take i entries ++ x ∷ [])) (sym is) ∙ reverse-append (take i entries) (entry ∷ [])

pub updates_of-longer : (n : ℕ) (later h : List Placed) → length (updates_of n h) ≤ length (updates_of n (later ++ h))
updates_of-longer n [] h = omega arith
updates_of-longer n (entry ∷ later) h = let before = updates_of-longer n later h in dite (ℕ_discrete (txn_of entry.rec) n)
    (λ same.
    let longer = ap length (updates_of-first_own n entry (later ++ h) same) in
    let parts = length-append (changes_of entry.rec) (updates_of n (later ++ h)) in omega arith)
    (λ other. let equal = ap length (updates_of-first_other n entry (later ++ h) other) in omega arith)

-- what stands behind this entry is part of the whole
pub reverse-split : (entries : List Placed) (i : ℕ) (entry : Placed) → i < length entries → entry ≡ get_or entries i entry
    → reverse entries ≡ reverse (drop (i + 1) entries) ++ entry ∷ reverse (take i entries)
reverse-split entries i entry inside is =
    ap reverse (sym (take-append-drop (i + 1) entries)) ∙ reverse-append (take (i + 1) entries) (drop (i + 1) entries)
    ∙ ap (λ h. reverse (drop (i + 1) entries) ++ h) (reverse-take_more entries i entry inside is)

-- there is room for the changes of one more entry
pub updates_of-room : (n : ℕ) (entries : List Placed) (i : ℕ) (entry : Placed) → i < length entries → entry ≡ get_or entries i entry
    → txn_of entry.rec ≡ n → length (updates_of n (reverse entries)) ≤ 16
    → length (updates_of n (reverse (take i entries))) + length (changes_of entry.rec) ≤ 16
updates_of-room n entries i entry inside is same few =
    let whole = ap (λ h. length (updates_of n h)) (reverse-split entries i entry inside is) in
    let longer = updates_of-longer n (reverse (drop (i + 1) entries)) (entry ∷ reverse (take i entries)) in
    let here = ap length (updates_of-first_own n entry (reverse (take i entries)) same) in
    let parts = length-append (changes_of entry.rec) (updates_of n (reverse (take i entries))) in omega arith

-- what was gathered of a history: whether the transaction is ended, and its changes
pub record Gathers (n : ℕ) (h : List Placed) (is_ended : Bool) (changes : List Change) : Type 0 where
  pub ended : is_ended ≡ has_end (own_records_of n h)
  pub updates : changes ≡ updates_of n h
