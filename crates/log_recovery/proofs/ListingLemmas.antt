-- How a list is read from units, record by record.
use Rattle.std.proofs.Common.{◌≡◌, ◌<◌, ℕ, ◌+◌, List, [], ◌∷◌, ◌++◌, length, drop, refl, ap, ◌∙◌, sym, arith, length-append, append_assoc}
use Rattle.std.specs.List.{AllByRecursion}
use Rattle.std.proofs.lemmas.List.{append-nil}
use Rattle.std.proofs.Math.Seq.{drop-append_seam}
use Rattle.log_record.specs.declared.rec.Rec.{Rec}
use Rattle.log_record.specs.declared.rec.Placed.{Placed}
use Rattle.log_record.specs.LogList.{units_of, end_of}
use Rattle.log_record.specs.Spelling.{spelling, IsSpellable, BeginsWith}
use Rattle.log_record.proofs.LogListLemmas.{units_of-append}
use Rattle.lock_core.specs.History.{end_from, entry_at, history_from}
use Rattle.lsn_space.proofs.TilingLemmas.{all-append}
use Rattle.log_recovery.specs.ListedRecords.{IsFront, IsBadRecAt}

pub end_from-history : (start : ℕ) (h : List Placed) (records : List Rec) → end_from start (history_from start h records) ≡ end_from start h + end_of records
end_from-history start h [] = omega arith
end_from-history start h (rec ∷ records) =
    let more = end_from-history start (entry_at (end_from start h) rec ∷ h) records in
    let parts = length-append (spelling rec) (units_of records) in omega arith

-- nothing stands before the whole
pub front-none : (units : List ℕ) → IsFront units units
front-none units = record { records = []; each = tt; whole = refl }

-- one record further
pub front_records-push : (units : List ℕ) (records : List Rec) (rest after : List ℕ) (rec : Rec) → AllByRecursion IsSpellable records → units ≡ units_of records ++ rest
    → BeginsWith rest rec → after ≡ drop (length (spelling rec)) rest → AllByRecursion IsSpellable (records ++ rec ∷ []) × (units ≡ units_of (records ++ rec ∷ []) ++ after)
front_records-push units records rest after rec each before begins dropped =
    let behind : List ℕ = begins.1 in
    let is : after ≡ behind = dropped ∙ ap (drop (length (spelling rec))) begins.2 ∙ drop-append_seam (spelling rec) behind in (
      all-append IsSpellable records (rec ∷ []) each (begins.0, tt),
      before ∙ ap (λ l. units_of records ++ l) (begins.2 ∙ ap (λ l. spelling rec ++ l) (sym is))
          ∙ sym (append_assoc (units_of records) (spelling rec) after)
          ∙ ap (λ l. units_of records ++ l ++ after) (sym (append-nil (spelling rec)))
          ∙ ap (λ l. l ++ after) (sym (units_of-append records (rec ∷ []))),
    )

-- the end of the records before a rest
pub front_and_rest-length : (units : List ℕ) (records : List Rec) (rest : List ℕ) → units ≡ units_of records ++ rest → end_of records + length rest ≡ length units
front_and_rest-length units records rest whole = let lengths = ap length whole in let parts = length-append (units_of records) rest in omega arith

pub front-IsBadRecAt : (begin : ℕ) (units : List ℕ) (rest : List ℕ) (lsn : ℕ) → IsFront units rest → 0 < length rest
    → lsn + length rest ≡ begin + length units → ((rec : Rec) → BeginsWith rest rec → ⊥) → IsBadRecAt begin units lsn
front-IsBadRecAt begin units rest lsn before some place none =
    let lengths = ap length before.whole in let parts = length-append (units_of before.records) rest in
    record { front = before.records; each = before.each; rest = rest; whole = before.whole; place = omega arith; some = some; none = none }
