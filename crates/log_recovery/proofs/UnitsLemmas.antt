-- How the records of units are taken, one by one.
use Rattle.std.proofs.Common.{◌≡◌, ◌≤◌, ℕ, ◌+◌, List, [], ◌∷◌, ◌++◌, length, drop, ap, ◌∙◌, sym, subst, arith, length-append}
use Rattle.std.specs.List.{AllByRecursion}
use Rattle.std.proofs.lemmas.List.{append-nil}
use Rattle.log_record.specs.declared.rec.Rec.{Rec}
use Rattle.log_record.specs.declared.rec.Placed.{Placed}
use Rattle.log_record.specs.LogList.{AreUnitsOf, units_of}
use Rattle.log_record.specs.Spelling.{spelling, IsSpellable, BeginsWith}
use Rattle.log_record.proofs.LogListLemmas.{units_of-append}
use Rattle.lsn_space.specs.Opening.{Opening}
use Rattle.lsn_space.proofs.TilingLemmas.{all-append}
use Rattle.lock_core.specs.AccountRows.{opening_of}
use Rattle.lock_core.specs.declared.reason.Why.{Why}
use Rattle.lock_core.specs.History.{end_from, entry_at, history_from}
use Rattle.lock_core.specs.Lawful.{Passes, IsLawful}
use Rattle.lock_core.specs.Faults.{IsFirstFailing, IsUnlawfulAt}
use Rattle.lock_core.specs.Sums as sums
use Rattle.lock_core.proofs.Fronts.{history_from-append, history_from-extends}
use Rattle.log_recovery.specs.ListedRecords.{IsFront, IsRecords}
use Rattle.log_recovery.specs.JudgedUnits.{HasTakenFront, FailsBefore}
use Rattle.log_recovery.proofs.ListingLemmas.{end_from-history, front_records-push, front_and_rest-length}

pub IsFront-step : (units rest after : List ℕ) (rec : Rec) → IsFront units rest → BeginsWith rest rec → after ≡ drop (length (spelling rec)) rest → IsFront units after
IsFront-step units rest after rec front begins dropped =
    let more = front_records-push units front.records rest after rec front.each front.whole begins dropped in
    record { records = front.records ++ rec ∷ []; each = more.0; whole = more.1 }

pub IsFront-IsRecords : (units rest : List ℕ) → rest ≡ [] → IsFront units rest → IsRecords units
IsFront-IsRecords units rest empty front =
    (front.records, record { spellable = front.each; units_are = front.whole ∙ ap (λ l. units_of front.records ++ l) empty ∙ append-nil (units_of front.records) })

-- what is taken of the units by what has taken lists so
module _ {T : Type 0} (HasTaken : sums.Opening → T → List Placed → Type 0) where
  pub taken_front-IsFront : (opening : Opening) (units rest : List ℕ) (taker : T) → HasTakenFront HasTaken opening units rest taker → IsFront units rest
  taken_front-IsFront opening units rest taker front = record { records = front.records; each = front.each; whole = front.whole }

module _ {T : Type 0} (HasTaken : sums.Opening → T → List Placed → Type 0) (opening : Opening) (units rest : List ℕ) (taker : T) (lsn : ℕ)
    (before : HasTakenFront HasTaken opening units rest taker) (place : lsn + length rest ≡ opening.lsn + length units) where
  -- the records so far, in their places
  abbrev pub so_far : List Placed
  so_far = history_from opening.lsn [] before.records

  pub taken-place : lsn ≡ end_from opening.lsn so_far
  taken-place = let end = front_and_rest-length units before.records rest before.whole in let start = end_from-history opening.lsn [] before.records in omega arith

  pub next_record-within_last : (rec : Rec) (last : ℕ) → BeginsWith rest rec → opening.lsn + length units ≤ last → lsn + length (spelling rec) ≤ last
  next_record-within_last rec last begins fits = let longer = ap length begins.2 in let parts = length-append (spelling rec) begins.1 in omega arith

  module _ (rec : Rec) (after : List ℕ) (begins : BeginsWith rest rec) (dropped : after ≡ drop (length (spelling rec)) rest) where
    next : AllByRecursion IsSpellable (before.records ++ rec ∷ []) × (units ≡ units_of (before.records ++ rec ∷ []) ++ after)
    next = front_records-push units before.records rest after rec before.each before.whole begins dropped

    history-next : history_from opening.lsn [] (before.records ++ rec ∷ []) ≡ entry_at lsn rec ∷ so_far
    history-next = history_from-append opening.lsn [] before.records (rec ∷ []) ∙ ap (λ start. entry_at start rec ∷ so_far) (sym taken-place)

    pub taken-step : (later : T) → HasTaken (opening_of opening) later (entry_at lsn rec ∷ so_far) → HasTakenFront HasTaken opening units after later
    taken-step later taken = record {
      records = before.records ++ rec ∷ [];
      each = next.0;
      whole = next.1;
      taken = subst (HasTaken (opening_of opening) later) (sym history-next) taken;
    }

    pub failing_record-FailsBefore : (why : Why) → IsLawful (opening_of opening) so_far → IsFirstFailing (Passes (opening_of opening) so_far (entry_at lsn rec)) why
        → FailsBefore opening units after lsn why
    failing_record-FailsBefore why lawful first = record {
      front = before.records;
      rec = rec;
      each = next.0;
      whole = next.1;
      lawful = lawful;
      place = taken-place;
      first = first;
    }

-- a record that fails, and then the rest of a list
pub FailsBefore-IsUnlawfulAt : (opening : Opening) (units rest : List ℕ) (lsn : ℕ) (why : Why) → FailsBefore opening units rest lsn why → IsRecords rest
    → (records : List Rec) × AreUnitsOf units records × IsUnlawfulAt (opening_of opening) (history_from opening.lsn [] records) lsn why
FailsBefore-IsUnlawfulAt opening units rest lsn why fails more =
    let all : List Rec = (fails.front ++ fails.rec ∷ []) ++ more.0 in
    let front : List Placed = history_from opening.lsn [] fails.front in
    let onto = history_from-extends opening.lsn (history_from opening.lsn [] (fails.front ++ fails.rec ∷ [])) more.0 in (
      all,
      record {
        spellable = all-append IsSpellable (fails.front ++ fails.rec ∷ []) more.0 fails.each more.1.spellable;
        units_are = fails.whole ∙ ap (λ l. units_of (fails.front ++ fails.rec ∷ []) ++ l) more.1.units_are ∙ sym (units_of-append (fails.front ++ fails.rec ∷ []) more.0);
      },
      record {
        later = onto.0;
        entry = entry_at lsn fails.rec;
        front = front;
        whole = history_from-append opening.lsn [] (fails.front ++ fails.rec ∷ []) more.0 ∙ onto.1
            ∙ ap (λ h. onto.0 ++ h) (history_from-append opening.lsn [] fails.front (fails.rec ∷ []) ∙ ap (λ start. entry_at start fails.rec ∷ front) (sym fails.place));
        lawful = fails.lawful;
        place = fails.place;
        first = fails.first;
      },
    )
