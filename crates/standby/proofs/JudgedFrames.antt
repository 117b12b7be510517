-- How the records of a frame are judged behind a list, one by one.
use Rattle.std.proofs.Common.{◌≡◌, ◌∙◌, sym, ap, refl, subst, ℕ, ◌+◌, ◌≤◌, ◌<◌, List, [], ◌∷◌, ◌++◌, length, drop, length-append, length-drop, append_assoc, append-nil, arith}
use Rattle.std.specs.List.{AllByRecursion}
use Rattle.std.proofs.Math.Seq.{drop-append_seam}
use Rattle.std.proofs.lemmas.List.{drop-drop}
use Rattle.log_record.specs.declared.rec.Rec.{Rec}
use Rattle.log_record.specs.LogList.{units_of, end_of, size_of}
use Rattle.log_record.specs.Spelling.{spelling, IsSpellable, BeginsWith}
use Rattle.log_record.proofs.SpellingLemmas.{spelling-append-injective, size_of-positive, begins_with-size_of_le}
use Rattle.log_record.proofs.LogListLemmas.{end_of-append}
use Rattle.lock_core.specs.History.{entry_at}
use Rattle.lock_core.specs.Faults.{IsFirstFailing, IsUnlawfulAt}
use Rattle.lock_core.specs.Lawful.{Passes}
use Rattle.lock_core.specs.Taking.{HasJudged, IsTakeFault}
use Rattle.lock_core.specs.declared.judge.Judge.{Judge}
use Rattle.lock_core.specs.declared.reason.JudgeFault.{JudgeFault}
use Rattle.lock_core.specs.declared.reason.JudgeFault.TheVariants as untaken
use Rattle.lock_core.specs.declared.reason.Why.{Why}
use Rattle.lock_core.proofs.Fronts.{history_from-append, history_from-extends}
use Rattle.log_recovery.specs.Opened.{OpenedList, list_end, opening_before, placed, with_records}
use Rattle.log_recovery.proofs.OpenedLemmas.{list_end-more, placed-end}
use Rattle.standby.specs.TakenList.{HasTakenList, IsFrameFault, record_fault}

-- ---- records and their units

all-behind : (xs ys : List Rec) → AllByRecursion IsSpellable (xs ++ ys) → AllByRecursion IsSpellable ys
all-behind [] ys all = all
all-behind (x ∷ xs) ys all = all-behind xs ys all.1

end_of-one : (rec : Rec) → end_of (rec ∷ []) ≡ size_of rec
end_of-one rec = ap length (append-nil (spelling rec))

-- records without units are none
pub end_of_zero-no_records : (records : List Rec) → end_of records ≡ 0 → records ≡ []
end_of_zero-no_records [] none = refl
end_of_zero-no_records (rec ∷ records) none = absurd (omega (arith, none, size_of-positive rec, length-append (spelling rec) (units_of records)))

-- ---- the list with one record more

pub placed-push : (list : OpenedList) (rec : Rec) (lsn : ℕ) → lsn ≡ list_end list
    → placed (with_records list (rec ∷ [])) ≡ entry_at lsn rec ∷ placed list
placed-push list rec lsn place =
    history_from-append list.opening.lsn [] list.records (rec ∷ [])
    ∙ ap (λ start. entry_at start rec ∷ placed list) (placed-end list ∙ sym place)

-- records behind others
pub with_records-append : (list : OpenedList) (front rest : List Rec)
    → with_records (with_records list front) rest ≡ with_records list (front ++ rest)
with_records-append list front rest = λ i. record { opening = list.opening; records = append_assoc list.records front rest i }

pub with_records-none : (list : OpenedList) → with_records list [] ≡ list
with_records-none list = λ i. record { opening = list.opening; records = append-nil list.records i }

-- ---- how far a frame was judged

-- the records whose units end at this index were taken, and the others were not
pub record HasTakenTo (list : OpenedList) (records : List Rec) (at : ℕ) (units : List ℕ) (judge : Judge) : Type 0 where
  pub seen : List Rec
  pub unseen : List Rec
  pub whole : records ≡ seen ++ unseen
  pub left : drop at units ≡ units_of unseen
  pub place : at ≡ end_of seen
  pub taken : HasTakenList (with_records list seen) judge

module _ (list : OpenedList) (records : List Rec) (at : ℕ) (units : List ℕ) (judge : Judge) (to : HasTakenTo list records at units judge)
    (spellable : AllByRecursion IsSpellable records) where
  unseen-spellable : AllByRecursion IsSpellable to.unseen
  unseen-spellable = all-behind to.seen to.unseen (subst (AllByRecursion IsSpellable) to.whole spellable)

  -- where units are left, they begin with a record
  pub taken-record_begins : at < length units → (rec : Rec) × BeginsWith (drop at units) rec
  taken-record_begins within = by-unseen to.unseen unseen-spellable to.left
    where
      by-unseen : (unseen : List Rec) → AllByRecursion IsSpellable unseen → drop at units ≡ units_of unseen → (rec : Rec)
          × BeginsWith (drop at units) rec
      by-unseen [] all left = absurd (omega (arith, within, length-drop at units, ap length left))
      by-unseen (rec ∷ unseen) all left = (rec, (all.0, units_of unseen, left))

  -- where none are left, the judge has taken all
  pub taken-all : length units ≤ at → HasTakenList (with_records list records) judge
  taken-all end =
      let none : end_of to.unseen ≡ 0 = omega (arith, length-drop at units, ap length to.left, end) in
      let same : to.seen ≡ records = sym (to.whole ∙ ap (λ rs. to.seen ++ rs) (end_of_zero-no_records to.unseen none) ∙ append-nil to.seen) in
      subst (λ rs. HasTakenList (with_records list rs) judge) same to.taken

  -- the next record stands where what was taken ends
  pub taken_lsn-list_end : (from lsn : ℕ) → from ≡ list_end list → lsn ≡ from + at → lsn ≡ list_end (with_records list to.seen)
  taken_lsn-list_end from lsn start is = omega (arith, start, is, to.place, list_end-more list to.seen)

  module _ (rec : Rec) (begins : BeginsWith (drop at units) rec) where
    record Goes : Type 0 where
      unseen : List Rec
      whole : to.unseen ≡ rec ∷ unseen

    goes : Goes
    goes = by-unseen to.unseen unseen-spellable to.left refl
      where
        by-unseen : (unseen : List Rec) → AllByRecursion IsSpellable unseen → drop at units ≡ units_of unseen → to.unseen ≡ unseen → Goes
        by-unseen [] all left is = absurd (omega (arith, size_of-positive rec, begins_with-size_of_le _ rec begins, ap length left))
        by-unseen (next ∷ unseen) all left is =
            let same = spelling-append-injective next rec _ _ all.0 begins.0 (sym left ∙ begins.2) in
            record { unseen = unseen; whole = is ∙ ap (λ r. r ∷ unseen) same.0 }

    seen-more : records ≡ (to.seen ++ rec ∷ []) ++ goes.unseen
    seen-more = to.whole ∙ ap (λ rs. to.seen ++ rs) goes.whole ∙ sym (append_assoc to.seen (rec ∷ []) goes.unseen)

    placed-more : (lsn : ℕ) → lsn ≡ list_end (with_records list to.seen)
        → placed (with_records list (to.seen ++ rec ∷ [])) ≡ entry_at lsn rec ∷ placed (with_records list to.seen)
    placed-more lsn place =
        ap placed (sym (with_records-append list to.seen (rec ∷ [])))
        ∙ placed-push (with_records list to.seen) rec lsn place

    -- it is taken
    pub has_taken_to-push : (lsn size : ℕ) (later : Judge) → lsn ≡ list_end (with_records list to.seen) → size ≡ size_of rec
        → HasJudged (opening_before list) later (entry_at lsn rec ∷ placed (with_records list to.seen))
        → HasTakenTo list records (at + size) units later
    has_taken_to-push lsn size later place size_is taken = record {
      seen = to.seen ++ rec ∷ [];
      unseen = goes.unseen;
      whole = seen-more;
      left = ap (λ n. drop (at + n) units) size_is ∙ sym (drop-drop (size_of rec) at units)
          ∙ ap (drop (size_of rec)) (to.left ∙ ap units_of goes.whole) ∙ drop-append_seam (spelling rec) (units_of goes.unseen);
      place = omega (arith, to.place, size_is, end_of-append to.seen (rec ∷ []), end_of-one rec);
      taken = subst (HasJudged (opening_before list) later) (sym (placed-more lsn place)) taken;
    }

    -- it fails a test
    first_failing-unlawful_at : (lsn : ℕ) (why : Why) → lsn ≡ list_end (with_records list to.seen)
        → IsFirstFailing (Passes (opening_before list) (placed (with_records list to.seen)) (entry_at lsn rec)) why
        → IsUnlawfulAt (opening_before list) (placed (with_records list records)) lsn why
    first_failing-unlawful_at lsn why place first =
        let onto = history_from-extends list.opening.lsn (placed (with_records list (to.seen ++ rec ∷ []))) goes.unseen in
        record {
          later = onto.0;
          entry = entry_at lsn rec;
          front = placed (with_records list to.seen);
          whole = ap (λ rs. placed (with_records list rs)) seen-more
              ∙ ap placed (sym (with_records-append list (to.seen ++ rec ∷ []) goes.unseen))
              ∙ history_from-append list.opening.lsn [] (list.records ++ (to.seen ++ rec ∷ [])) goes.unseen
              ∙ onto.1 ∙ ap (λ h. onto.0 ++ h) (placed-more lsn place);
          lawful = to.taken.ledger.judged.lawful;
          place = place ∙ sym (placed-end (with_records list to.seen));
          first = first;
        }

    -- it isn't taken
    pub take_fault-frame_fault : (lsn : ℕ) (fault : JudgeFault) → lsn ≡ list_end (with_records list to.seen)
        → IsTakeFault (opening_before list) (placed (with_records list to.seen)) (entry_at lsn rec) fault
        → IsFrameFault list records (record_fault lsn fault)
    take_fault-frame_fault lsn (untaken.Why why) place first = first_failing-unlawful_at lsn why place first
    take_fault-frame_fault lsn untaken.NoMemory place first = first
