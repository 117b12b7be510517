-- Fronts of lawful lists are lawful.
use Rattle.std.proofs.Common.{◌≡◌, ℕ, List, [], ◌∷◌, ◌++◌, refl, ap, ◌∙◌, sym, subst, append_assoc}
use Rattle.log_record.specs.declared.rec.Rec.{Rec}
use Rattle.log_record.specs.declared.rec.Placed.{Placed}
use Rattle.lock_core.specs.History.{end_from, entry_at, history_from}
use Rattle.lock_core.specs.Sums.{Opening}
use Rattle.lock_core.specs.Lawful.{IsLawful}

pub lawful-front : (opening : Opening) (later front : List Placed) → IsLawful opening (later ++ front) → IsLawful opening front
lawful-front opening [] front lawful = lawful
lawful-front opening (entry ∷ later) front lawful = lawful-front opening later front lawful.1

pub history_from-append : (start : ℕ) (h : List Placed) (front later : List Rec)
    → history_from start h (front ++ later) ≡ history_from start (history_from start h front) later
history_from-append start h [] later = refl
history_from-append start h (rec ∷ front) later = history_from-append start (entry_at (end_from start h) rec ∷ h) front later

-- a history stands at the bottom of what follows it
pub history_from-extends : (start : ℕ) (h : List Placed) (records : List Rec) → (more : List Placed) × (history_from start h records ≡ more ++ h)
history_from-extends start h [] = ([], refl)
history_from-extends start h (rec ∷ records) =
    let entry : Placed = entry_at (end_from start h) rec in
    let rest = history_from-extends start (entry ∷ h) records in
    (rest.0 ++ entry ∷ [], rest.1 ∙ sym (append_assoc rest.0 (entry ∷ []) h))

pub lawful-records_front : (opening : Opening) (start : ℕ) (front later : List Rec) → IsLawful opening (history_from start [] (front ++ later))
    → IsLawful opening (history_from start [] front)
lawful-records_front opening start front later lawful =
    let rest = history_from-extends start (history_from start [] front) later in
    lawful-front opening rest.0 (history_from start [] front) (subst (IsLawful opening) (history_from-append start [] front later ∙ rest.1) lawful)

-- a history goes on as one of its own does that starts where it ends
pub history_from-split : (start : ℕ) (h : List Placed) (records : List Rec) → history_from start h records ≡ history_from (end_from start h) [] records ++ h
history_from-split start h records = onto [] records
  where
    -- behind some entries more
    onto : (more : List Placed) (records : List Rec)
        → history_from start (more ++ h) records ≡ history_from (end_from start h) more records ++ h
    onto more [] = refl
    onto more (rec ∷ records) =
        ap (λ end. history_from start (entry_at end rec ∷ more ++ h) records) (ends more)
        ∙ onto (entry_at (end_from (end_from start h) more) rec ∷ more) records
      where
        ends : (more : List Placed) → end_from start (more ++ h) ≡ end_from (end_from start h) more
        ends [] = refl
        ends (entry ∷ more) = refl
