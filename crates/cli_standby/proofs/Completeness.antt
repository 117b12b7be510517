-- Where nothing stands in its way, `follow` succeeds.
use Rattle.std.proofs.Common.{◌≡◌, ◌∙◌, ⊎_elim, inl, inr, refl, sym, ap, subst, ℕ, List, [], ◌∷◌, ◌++◌, append_assoc, Option, Some, None, IfSome}
use Rattle.log_disk.specs.declared.disk.LogDisk.{Ghosts}
use Rattle.log_record.specs.declared.rec.Rec.{Rec}
use Rattle.lock_core.proofs.Fronts.{lawful-records_front}
use Rattle.lock_core.specs.History.{history_from}
use Rattle.lock_core.specs.Lawful.{IsLawful}
use Rattle.lock_core.specs.declared.reason.Why.{Why}
use Rattle.log_recovery.specs.declared.recovery.RecoverFault.{RecoverFault}
use Rattle.log_recovery.specs.Opened.{OpenedList, list_end, opening_before, placed}
use Rattle.log_recovery.specs.Recovery.{HoldsLawful, IsFaultOf}
use Rattle.log_recovery.proofs.AnswerLemmas.{HoldsLawful-fault_no_memory, lawful-unlawful, one-list}
use Rattle.ship_stream.specs.Stream.{HasFrames, records_of}
use Rattle.ship_stream.proofs.StreamLemmas.{is_stream-not_bad_stream, one_stream-front, records_of-append}
use Rattle.standby.specs.AppliedFrames.{with_frames}
use Rattle.standby.specs.declared.fault.StandbyFault.{StandbyFault}
use Rattle.standby.specs.declared.fault.StandbyFault.TheVariants as stream
use Rattle.cli_shared.specs.Answers.{recover_detail}
use Rattle.cli_shared.specs.Outside.{Outside, outside}
use Rattle.cli_shared.specs.declared.report.Detail.{Detail}
use Rattle.cli_shared.specs.declared.report.Detail.TheVariants.{Read, Write, Disk, BadStream, Gap, StreamUnlawful}
use Rattle.cli_standby.specs.Following.{AnswersFollow, IsFollowDone, IsLawfulStream, Stopped}
use Rattle.cli_standby.specs.Feeding.{stream_detail}
use Rattle.cli_standby.proofs.FollowCases.{feeding_fault-by_cases, follow-case, FollowCase}

-- the list with the first of some frames is lawful where it is with all
lawful-frames : (list : OpenedList) (frames later : List (List Rec))
    → IsLawful (opening_before list) (placed (with_frames list (frames ++ later)))
    → IsLawful (opening_before list) (placed (with_frames list frames))
lawful-frames list frames later lawful =
    lawful-records_front (opening_before list) list.opening.lsn (list.records ++ records_of frames) (records_of later)
    (subst (λ records. IsLawful (opening_before list) (history_from list.opening.lsn [] records))
    (ap (λ rs. list.records ++ rs) (records_of-append frames later)
    ∙ sym (append_assoc list.records (records_of frames) (records_of later))) lawful)

module _ {D : Type 0} (g : Ghosts D) (disk disk_new : D) (bytes : List ℕ) (left_new text text_new : Option (List ℕ))
    (ReadFails WriteFails DiskFails : Type 0) (opened : OpenedList) (held : HoldsLawful (g.reads disk) opened)
    (asked : IsLawfulStream bytes opened)
    (no_read : ReadFails → ⊥) (no_write : WriteFails → ⊥) (no_disk : DiskFails → ⊥) where
  abbrev old : Outside D
  old = outside disk (Some bytes) text

  abbrev new : Outside D
  new = outside disk_new left_new text_new

  same-list : (other : OpenedList) → HoldsLawful (g.reads disk) other → other ≡ opened
  same-list other also = one-list (g.reads disk) other opened also.list held.list

  -- of a stream whose frames keep the list lawful no record is unlawful
  stays-lawful : (frames : List (List Rec)) → (rest : List ℕ) × HasFrames bytes (list_end opened) frames rest
      → IsLawful (opening_before opened) (placed (with_frames opened frames))
  stays-lawful frames has =
      let front = one_stream-front bytes (list_end opened) (list_end opened) asked.frames frames has.0 asked.stream has.1 in
      lawful-frames opened frames front.1
      (subst (λ fs. IsLawful (opening_before opened) (placed (with_frames opened fs))) front.2 asked.lawful)

  -- a stream has no bad part
  no-bad-stream : (offset : ℕ) → Stopped g (BadStream offset) old new → ⊥
  no-bad-stream offset stopped =
      let cause = stopped.cause.1 in
      is_stream-not_bad_stream bytes (list_end opened) asked.frames offset asked.stream (cause.0, cause.3)

  -- it begins where the list ends
  no-gap : (have from : ℕ) → Stopped g (Gap have from) old new → ⊥
  no-gap have from stopped =
      let cause = stopped.cause in
      let front = one_stream-front bytes (list_end opened) from asked.frames [] cause.4.0 asked.stream cause.4.1 in
      cause.3 (front.0 ∙ sym (cause.2 ∙ ap list_end (same-list stopped.opened stopped.followed.held)))

  no-unlawful : (lsn : ℕ) (why : Why) → Stopped g (StreamUnlawful lsn why) old new → ⊥
  no-unlawful lsn why stopped =
      let same = same-list stopped.opened stopped.followed.held in
      let cause = stopped.cause.1 in
      let frames : List (List Rec) = stopped.frames ++ cause.0 ∷ [] in
      let has = subst (λ (list : OpenedList). HasFrames bytes (list_end list) frames cause.1.0) same cause.1.1 in
      let lawful = subst (λ (list : OpenedList). IsLawful (opening_before list) (placed (with_frames list frames))) (sym same)
      (stays-lawful frames (cause.1.0, has)) in
      lawful-unlawful (opening_before stopped.opened) (placed (with_frames stopped.opened frames)) lsn why lawful cause.2

  stopped-done : (f : StandbyFault) → Stopped g (stream_detail f) old new → (stream_detail f ≡ Disk → DiskFails)
      → IsFollowDone (stream_detail f)
  stopped-done (stream.BadStream offset) stopped disks = absurd (no-bad-stream offset stopped)
  stopped-done (stream.Gap have from) stopped disks = absurd (no-gap have from stopped)
  stopped-done (stream.StreamUnlawful lsn why) stopped disks = absurd (no-unlawful lsn why stopped)
  stopped-done stream.DiskFault stopped disks = absurd (no_disk (disks refl))
  stopped-done stream.NoMemory stopped disks = tt

  -- a lawful log has no fault but want of memory
  found-done : (f : RecoverFault) → IsFaultOf (g.reads disk) f → IsFollowDone (recover_detail f)
  found-done f is = subst (λ f. IsFollowDone (recover_detail f)) (sym (HoldsLawful-fault_no_memory (g.reads disk) opened f held is)) tt

  case-done : (detail : Detail) → FollowCase g old new detail → (detail ≡ Read → ReadFails) → (detail ≡ Write → WriteFails)
      → (detail ≡ Disk → DiskFails) → IsFollowDone detail
  case-done detail (inl whole) reads writes disks =
      ⊎_elim (λ fine. subst IsFollowDone (sym fine) tt) (λ write. absurd (no_write (writes write))) whole.3
  case-done detail (inr (inl looked)) reads writes disks =
      ⊎_elim (λ failed. absurd (no_disk (disks failed))) (λ found. subst IsFollowDone found.2 (found-done found.0 found.1)) looked.1
  case-done detail (inr (inr stopped)) reads writes disks =
      feeding_fault-by_cases (λ d. Stopped g d old new → (d ≡ Read → ReadFails) → (d ≡ Disk → DiskFails) → IsFollowDone d)
      (λ unread reads disks. absurd (no_read (reads refl))) (λ f ended reads disks. stopped-done f ended disks)
      detail stopped.1 stopped.0 reads disks

pub follow-complete : {D : Type 0} (g : Ghosts D) (disk disk_new : D) (left left_new text text_new : Option (List ℕ))
    (ReadFails WriteFails DiskFails : Type 0) (detail : Detail)
    → AnswersFollow g (outside disk left text) (outside disk_new left_new text_new) detail
    → (detail ≡ Read → ReadFails) → (detail ≡ Write → WriteFails) → (detail ≡ Disk → DiskFails)
    → IfSome left (λ bytes. (opened : OpenedList) → HoldsLawful (g.reads disk) opened → IsLawfulStream bytes opened
    → (ReadFails → ⊥) → (WriteFails → ⊥) → (DiskFails → ⊥) → IsFollowDone detail)
follow-complete g disk disk_new None left_new text text_new R W F detail answers reads writes disks = tt
follow-complete g disk disk_new (Some bytes) left_new text text_new R W F detail answers reads writes disks =
    λ opened held asked no_read no_write no_disk.
    case-done g disk disk_new bytes left_new text text_new R W F opened held asked no_read no_write no_disk detail
    (follow-case g (outside disk (Some bytes) text) (outside disk_new left_new text_new) detail answers) reads writes disks
