-- What was shipped and followed is a front of the list.
use Rattle.std.proofs.Common.{◌≡◌, ◌∙◌, sym, ap, subst, inl, inr, ℕ, ◌+◌, List, [], ◌++◌, append_assoc, arith}
use Rattle.std.specs.List.{AllByRecursion}
use Rattle.log_record.specs.declared.rec.Rec.{Rec}
use Rattle.log_record.specs.LogList.{end_of}
use Rattle.log_record.specs.Spelling.{IsSpellable}
use Rattle.lock_core.proofs.ListLemmas.{all-split}
use Rattle.log_recovery.specs.Opened.{OpenedList, list_end, with_front}
use Rattle.log_recovery.specs.Recovery.{HoldsLawful}
use Rattle.log_recovery.proofs.OpenedLemmas.{list_end-more}
use Rattle.ship_stream.specs.Frames.{frames_of, stream_of}
use Rattle.ship_stream.specs.Stream.{records_of, IsStream}
use Rattle.ship_stream.specs.declared.layout.TheConstants.{SHIPPED_UNITS}
use Rattle.ship_stream.proofs.PackingLemmas.{records_of-packed, shipped-stream}
use Rattle.ship_stream.proofs.StreamLemmas.{one_stream-front, records_of-append}
use Rattle.stream_reader.proofs.ReaderLemmas.{has_frames-more}
use Rattle.standby.specs.Following.{BeginsWithFrames, HoldsFollowed}

module _ (list : OpenedList) (before later : List Rec) (log fed more : List ℕ) (held : HoldsLawful log list)
    (whole : list.records ≡ before ++ later)
    (shipped : fed ++ more ≡ stream_of (list_end (with_front list before)) later) where
  abbrev first : ℕ
  first = list_end (with_front list before)

  end-is : first + end_of later ≡ list_end list
  end-is = sym (list_end-more (with_front list before) later)
      ∙ ap (λ records. list_end (record { opening = list.opening; records = records })) (sym whole)

  stream : IsStream (fed ++ more) first (frames_of later)
  stream =
      subst (λ bytes. IsStream bytes first (frames_of later)) (sym shipped)
      (shipped-stream first later (all-split IsSpellable before later (subst (AllByRecursion IsSpellable) whole held.list.each)).1
      (omega (arith, end-is, held.list.holds.reads.total)))

  -- the frames that came hold a front of what was shipped
  pub shipped-front : (frames : List (List Rec)) → BeginsWithFrames fed (with_front list before) frames → (rest : List Rec)
      × (later ≡ records_of frames ++ rest)
  shipped-front frames (inl none) = (later, sym (ap (λ fs. records_of fs ++ later) none))
  shipped-front frames (inr has) =
      let found = one_stream-front (fed ++ more) first first (frames_of later) frames (has.0 ++ more) stream
      (has_frames-more fed first frames has.0 more has.1) in (
        records_of found.1,
        sym (records_of-packed SHIPPED_UNITS [] later) ∙ ap records_of found.2 ∙ records_of-append frames found.1,
      )

  pub followed-front : (bytes : List ℕ) → HoldsFollowed (with_front list before) fed bytes
      → (front rest : List Rec) × (list.records ≡ before ++ front ++ rest) × HoldsLawful bytes (with_front list (before ++ front))
  followed-front bytes holds =
      let front = shipped-front holds.frames holds.begins in (
        records_of holds.frames,
        front.0,
        whole ∙ ap (λ rs. before ++ rs) front.1
            ∙ sym (append_assoc before (records_of holds.frames) front.0),
        holds.holds,
      )
