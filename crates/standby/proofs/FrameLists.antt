-- Lists with the records of frames behind their own.
use Rattle.std.proofs.Common.{◌≡◌, ◌∙◌, sym, ap, subst, inl, inr, ℕ, ◌+◌, ◌*◌, List, [], ◌∷◌, ◌++◌, length, length-append, append_assoc, append-nil, arith}
use Rattle.std.specs.List.{AllByRecursion}
use Rattle.log_record.specs.declared.rec.Rec.{Rec}
use Rattle.log_record.specs.LogList.{units_of, end_of}
use Rattle.log_record.specs.Spelling.{IsSpellable}
use Rattle.log_record.proofs.LogListLemmas.{units_of-append}
use Rattle.lock_core.specs.Lawful.{IsLawful}
use Rattle.lock_core.proofs.ListLemmas.{all-split}
use Rattle.log_recovery.specs.Opened.{OpenedList, log_of, opening_before, placed, with_records}
use Rattle.log_recovery.specs.Recovery.{HoldsLawful}
use Rattle.log_recovery.proofs.OpenedLemmas.{log_of-with_records}
use Rattle.segment_file.specs.Log.{with_units, HoldsLog}
use Rattle.segment_file.specs.StandingLog.{HoldsLogOrMore}
use Rattle.ship_stream.specs.Stream.{records_of, IsFrame}
use Rattle.ship_stream.proofs.StreamLemmas.{records_of-append}
use Rattle.lsn_space.proofs.TilingLemmas.{all-append}
use Rattle.standby.specs.AppliedFrames.{with_frames, place_behind, HoldsFront}
use Rattle.standby.proofs.JudgedFrames.{with_records-append, with_records-none}

-- ---- the records of frames

pub records_of-push : (frames : List (List Rec)) (records : List Rec) → records_of (frames ++ records ∷ []) ≡ records_of frames ++ records
records_of-push frames records = records_of-append frames (records ∷ []) ∙ ap (λ rs. records_of frames ++ rs) (append-nil records)

pub end_of_records_of-push : (frames : List (List Rec)) (records : List Rec)
    → end_of (records_of (frames ++ records ∷ [])) ≡ end_of (records_of frames) + end_of records
end_of_records_of-push frames records =
    ap end_of (records_of-push frames records) ∙ ap length (units_of-append (records_of frames) records)
    ∙ length-append (units_of (records_of frames)) (units_of records)

pub all_frames-last_is_frame : (frames : List (List Rec)) (records : List Rec) → AllByRecursion IsFrame (frames ++ records ∷ []) → IsFrame records
all_frames-last_is_frame frames records each = (all-split IsFrame frames (records ∷ []) each).1.0

-- ---- the list with them

pub with_frames-push : (list : OpenedList) (frames : List (List Rec)) (records : List Rec)
    → with_records (with_frames list frames) records ≡ with_frames list (frames ++ records ∷ [])
with_frames-push list frames records =
    with_records-append list (records_of frames) records ∙ ap (with_records list) (sym (records_of-push frames records))

pub place_behind-push : (at : ℕ) (frames : List (List Rec)) (records : List Rec)
    → place_behind at (frames ++ records ∷ []) ≡ place_behind at frames + (5 + 8 * end_of records)
place_behind-push at frames records = omega (arith, end_of_records_of-push frames records, length-append frames (records ∷ []))

-- ---- what an image holds

module _ (list : OpenedList) (bytes : List ℕ) where
  pub holds-front-all : (frames : List (List Rec)) → HoldsLawful bytes (with_frames list frames) → HoldsFront list frames bytes
  holds-front-all frames holds = record { front = frames; rest = []; whole = sym (append-nil frames); holds = holds }

  pub holds-front-more : (frames more : List (List Rec)) → HoldsFront list frames bytes → HoldsFront list (frames ++ more) bytes
  holds-front-more frames more held = record {
    front = held.front;
    rest = held.rest ++ more;
    whole = ap (λ fs. fs ++ more) held.whole ∙ append_assoc held.front held.rest more;
    holds = held.holds;
  }

  pub holds-front-none : HoldsLawful bytes list → HoldsFront list [] bytes
  holds-front-none holds = holds-front-all [] (subst (HoldsLawful bytes) (sym (with_records-none list)) holds)

  pub holds-lawful : AllByRecursion IsSpellable list.records → IsLawful (opening_before list) (placed list) → HoldsLog bytes (log_of list)
      → HoldsLawful bytes list
  holds-lawful each lawful held = record { list = record { each = each; holds = held }; lawful = lawful }

  -- the log before a frame, or with all of it
  pub holds-front-log_or_more : (records : List Rec) (units : List ℕ) → units ≡ units_of records
      → AllByRecursion IsSpellable list.records → IsLawful (opening_before list) (placed list)
      → AllByRecursion IsSpellable records → IsLawful (opening_before list) (placed (with_records list records))
      → HoldsLogOrMore (log_of list) units bytes → HoldsFront list (records ∷ []) bytes
  holds-front-log_or_more records units same each lawful more after (inl held) =
      holds-front-more [] (records ∷ []) (holds-front-none (holds-lawful each lawful held))
  holds-front-log_or_more records units same each lawful more after (inr held) =
      let one : with_records list records ≡ with_frames list (records ∷ []) = ap (with_records list) (sym (append-nil records)) in
      holds-front-all (records ∷ []) (subst (HoldsLawful bytes) one (record {
        list = record {
          each = all-append IsSpellable list.records records each more;
          holds = subst (HoldsLog bytes) (ap (with_units (log_of list)) same ∙ log_of-with_records list records) held;
        };
        lawful = after;
      }))

-- behind frames that were applied already
pub holds-front-behind : (list : OpenedList) (bytes : List ℕ) (frames cut : List (List Rec))
    → HoldsFront (with_frames list frames) cut bytes
    → HoldsFront list (frames ++ cut) bytes
holds-front-behind list bytes frames cut held = record {
  front = frames ++ held.front;
  rest = held.rest;
  whole = ap (λ fs. frames ++ fs) held.whole ∙ sym (append_assoc frames held.front held.rest);
  holds = subst (HoldsLawful bytes)
      (with_records-append list (records_of frames) (records_of held.front)
      ∙ ap (with_records list) (sym (records_of-append frames held.front)))
      held.holds;
}
