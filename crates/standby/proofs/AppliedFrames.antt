-- What a frame more does to a disk to which others came.
use Rattle.std.proofs.Common.{◌≡◌, ◌≤◌, ◌<◌, ◌∙◌, ◌↔◌, ap, subst, ℕ, ◌+◌, ◌*◌, List, [], ◌∷◌, ◌++◌, length, length-append, arith}
use Rattle.std.specs.List.{AllByRecursion}
use Rattle.log_disk.specs.Costs.{Costs}
use Rattle.log_disk.specs.Disk.{Leaves}
use Rattle.log_disk.specs.Lengths.{GrowsAtMostTo}
use Rattle.log_disk.specs.declared.disk.LogDisk.{Ghosts}
use Rattle.log_disk.proofs.Moments.{Leaves-trans, Leaves-weaken}
use Rattle.log_disk.proofs.Counting.{Costs-trans, Costs-weaken}
use Rattle.log_record.specs.declared.rec.Rec.{Rec}
use Rattle.log_record.specs.LogList.{units_of}
use Rattle.lock_core.specs.Lawful.{IsLawful}
use Rattle.log_record.specs.Spelling.{IsSpellable}
use Rattle.lock_core.specs.declared.judge.Judge.{Judge}
use Rattle.log_recovery.specs.Opened.{OpenedList, log_of, opening_before, placed, with_records}
use Rattle.log_recovery.proofs.OpenedLemmas.{list_end-more, log_of-with_records}
use Rattle.segment_file.specs.Log.{Log, with_units}
use Rattle.segment_file.specs.StandingLog.{HoldsLogOrMore, IsShut, LogStands}
use Rattle.segment_file.specs.declared.scan_result.Tail.{Tail}
use Rattle.lsn_space.proofs.TilingLemmas.{all-append}
use Rattle.standby.specs.AppliedFrames.{Base, with_frames, HoldsFront, Wrote, HasApplied}
use Rattle.standby.specs.TakenList.{HasTakenList, KeepsList}
use Rattle.standby.proofs.FrameLists.{with_frames-push, place_behind-push, holds-front-more, holds-front-log_or_more, holds-front-behind}

-- what `append` says of one frame and the disk before and after
pub record WroteFrame {D : Type 0} (g : Ghosts D) (tail : Tail) (units : List ℕ) (old new : D) : Type 0 where
  pub moments : g.honest old → (log : Log) → LogStands tail log (g.images old)
      → Leaves g.moment g.images_since (HoldsLogOrMore log units) old new
  pub count : g.honest old → Costs g 4 4 old new
  pub grows : g.honest old → GrowsAtMostTo g (tail.at + 6 + 8 * length units) old new
  pub later : g.moment old ≤ g.moment new
  pub honest : g.honest old ↔ g.honest new
  pub attached : g.attached new ≡ g.attached old

module _ {D : Type 0} (g : Ghosts D) (base : Base D) (frames : List (List Rec)) (judge : Judge) (tail : Tail) (old : D)
    (applied : HasApplied g base frames judge tail old) where
  abbrev list : OpenedList
  list = with_frames base.list frames

  lawful-before : IsLawful (opening_before list) (placed list)
  lawful-before = applied.kept.taken.ledger.judged.lawful

  module _ (records : List Rec) (units : List ℕ) (same : units ≡ units_of records) (each : AllByRecursion IsSpellable records)
      (later : Judge) (taken : HasTakenList (with_records list records) later) (new : D) (wrote : WroteFrame g tail units old new) where
    lawful-after : IsLawful (opening_before list) (placed (with_records list records))
    lawful-after = taken.ledger.judged.lawful

    -- the images of this append
    pub frame-leaves_holds_front : g.honest old → Leaves g.moment g.images_since (HoldsFront list (records ∷ [])) old new
    frame-leaves_holds_front honest =
        Leaves-weaken g.moment g.images_since _ _ old new
        (λ c either. holds-front-log_or_more list c records units same applied.kept.each lawful-before each lawful-after either)
        (wrote.moments honest (log_of list) (applied.kept.stands honest))

    pub wrote-push : Wrote g base (frames ++ records ∷ []) new
    wrote-push = record {
      moments = λ honest.
          let now = applied.wrote.honest.0 honest in
          Leaves-trans g.moment g.images_since _ base.disk old new
          (Leaves-weaken g.moment g.images_since _ _ base.disk old (λ c held. holds-front-more base.list c frames (records ∷ []) held)
          (applied.wrote.moments honest))
          (Leaves-weaken g.moment g.images_since _ _ old new (λ c held. holds-front-behind base.list c frames (records ∷ []) held)
          (frame-leaves_holds_front now));
      count = λ honest.
          let more = length-append frames (records ∷ []) in
          Costs-weaken g (4 * length frames + 4) _ (4 * length frames + 4) _ base.disk new (omega (arith, more)) (omega (arith, more))
          (Costs-trans g _ 4 _ 4 base.disk old new (applied.wrote.count honest) (wrote.count (applied.wrote.honest.0 honest)));
      grows = λ honest.
          omega (
            arith,
            applied.wrote.grows honest,
            wrote.grows (applied.wrote.honest.0 honest),
            place_behind-push base.at frames records,
            applied.at,
            ap length same,
          );
      later = omega (arith, applied.wrote.later, wrote.later);
      honest = (λ was. wrote.honest.0 (applied.wrote.honest.0 was), λ is. applied.wrote.honest.1 (wrote.honest.1 is));
      attached = wrote.attached ∙ applied.wrote.attached;
    }

    -- an append that succeeded
    pub has_applied-push : (t : Tail) → t.at ≡ tail.at + 5 + 8 * length units → t.next ≡ tail.next + length units → 0 < length units
        → (g.honest old → (log : Log) → LogStands tail log (g.images old) → LogStands t (with_units log units) (g.images new))
        → (g.honest old → IsShut t.at (g.images new)) → g.faults new ≡ g.faults old
        → HasApplied g base (frames ++ records ∷ []) later t new
    has_applied-push t at next some stands shut fine = record {
      kept = subst (λ l. KeepsList g l later t new) (with_frames-push base.list frames records) (record {
        each = all-append IsSpellable list.records records applied.kept.each each;
        taken = taken;
        next = omega (arith, next, applied.kept.next, ap length same, list_end-more list records);
        place = omega (arith, at, next, some, applied.kept.place);
        stands = λ honest.
            let was = wrote.honest.1 honest in
            subst (λ log. LogStands t log (g.images new)) (ap (with_units (log_of list)) same ∙ log_of-with_records list records)
            (stands was (log_of list) (applied.kept.stands was));
        shut = λ honest. shut (wrote.honest.1 honest);
      });
      at = omega (arith, at, applied.at, ap length same, place_behind-push base.at frames records);
      wrote = wrote-push;
      fine = fine ∙ applied.fine;
    }
