-- What a standby has made of the bytes that were read, said of the whole input.
use Rattle.std.proofs.Common.{◌≡◌, ◌∙◌, inl, inr, refl, sym, ap, subst, ℕ, List, [], ◌∷◌, ◌++◌, append-nil, take, Option, Some, None, IfSome, Result, Err, IsErrOf, arith}
use Rattle.std.specs.Io.KnownBytes.{Consumes, IsAtEnd, Keeps}
use Rattle.std.proofs.KnownBytes.{Consumes-kept, Consumes-trans}
use Rattle.log_disk.proofs.Moments.{Leaves-refl}
use Rattle.log_disk.specs.Faults.{CountsWhere}
use Rattle.log_disk.specs.declared.disk.LogDisk.{Ghosts}
use Rattle.log_disk.specs.declared.source.Source.{Ghosts as SourceGhosts}
use Rattle.log_record.specs.declared.rec.Rec.{Rec}
use Rattle.lock_core.specs.declared.judge.Judge.{Judge}
use Rattle.log_recovery.specs.Opened.{OpenedList, list_end}
use Rattle.log_recovery.specs.Recovery.{HoldsLawful}
use Rattle.segment_file.specs.declared.scan_result.Tail.{Tail}
use Rattle.ship_stream.specs.Came.{IsBadBehind}
use Rattle.ship_stream.specs.Stream.{HasFrames}
use Rattle.standby.specs.AppliedFrames.{Base, HoldsFront, Wrote, with_frames}
use Rattle.standby.specs.Following.{BeginsWithFrames, Follows, IsReason, Stops, whole_frames}
use Rattle.standby.specs.TakenList.{KeepsList}
use Rattle.standby.specs.declared.fault.StandbyFault.{StandbyFault}
use Rattle.standby.specs.declared.fault.StandbyFault.TheVariants as stream
use Rattle.standby.specs.declared.standby.Standby.{Standby}
use Rattle.standby.proofs.FollowedParts.{begins-followed, begins-longer}
use Rattle.standby.proofs.FrameLists.{holds-front-none, holds-lawful}
use Rattle.standby.proofs.JudgedFrames.{with_records-none}
use Rattle.standby.proofs.StoppedStreams.{read-come}
use Rattle.cli_shared.specs.declared.report.Detail.{Detail}
use Rattle.cli_shared.specs.declared.report.Detail.TheVariants.{Disk, NoMemory, Read}
use Rattle.stream_reader.proofs.ReaderLemmas.{has_frames-more}
use Rattle.cli_standby.specs.Feeding.{begun, FeedEnds, HasFed, HasFedAll, StopsFeeding, stream_detail}
use Rattle.cli_standby.specs.Following.{IsCause}

-- ---- the input and the bytes that were read of it

-- what is said of the bytes that were read, whatever follows
pub consumes-holds_of_input : (P : List ℕ → Type 0) (left left_new : Option (List ℕ)) (fed : List ℕ) → Consumes left left_new fed
    → ((more : List ℕ) → P (fed ++ more)) → IfSome left P
consumes-holds_of_input P None left_new fed taken all = tt
consumes-holds_of_input P (Some bytes) None fed taken all = absurd taken
consumes-holds_of_input P (Some bytes) (Some rest) fed taken all = subst P (sym taken) (all rest)

-- what is said of all bytes
pub consumes_all-holds_of_input : (P : List ℕ → Type 0) (left left_new : Option (List ℕ)) (fed : List ℕ) → Consumes left left_new fed
    → IfSome left (λ bytes. left_new ≡ Some []) → P fed → IfSome left P
consumes_all-holds_of_input P None left_new fed taken end all = tt
consumes_all-holds_of_input P (Some bytes) None fed taken end all = absurd taken
consumes_all-holds_of_input P (Some bytes) (Some rest) fed taken end all =
    let none : rest ≡ [] = subst (λ left. IfSome left (λ bytes. bytes ≡ [])) (sym end) refl in
    subst P (sym (taken ∙ ap (λ b. fed ++ b) none ∙ append-nil fed)) all

pub consumes_to_end-nothing_left : (left left_new : Option (List ℕ)) (fed : List ℕ) → Consumes left left_new fed → IsAtEnd left_new
    → IfSome left (λ bytes. left_new ≡ Some [])
consumes_to_end-nothing_left None left_new fed taken end = tt
consumes_to_end-nothing_left (Some bytes) None fed taken end = absurd taken
consumes_to_end-nothing_left (Some bytes) (Some rest) fed taken end = ap Some end

pub begins-input : (left left_new : Option (List ℕ)) (fed : List ℕ) (list : OpenedList) (frames : List (List Rec))
    → Consumes left left_new fed
    → BeginsWithFrames fed list frames → IfSome left (λ bytes. BeginsWithFrames bytes list frames)
begins-input left left_new fed list frames taken begins =
    consumes-holds_of_input (λ bytes. BeginsWithFrames bytes list frames) left left_new fed taken (λ more. begins-longer fed more list frames begins)

-- before any byte
pub begins-unread : (left : Option (List ℕ)) (list : OpenedList) → IfSome left (λ bytes. BeginsWithFrames bytes list [])
begins-unread None list = tt
begins-unread (Some bytes) list = inl refl

pub holds_front-none : (list : OpenedList) (c : List ℕ) → HoldsLawful c list → HoldsFront (with_frames list []) [] c
holds_front-none list c held = holds-front-none (with_frames list []) c (subst (HoldsLawful c) (sym (with_records-none list)) held)

-- ---- the fault of a standby

-- what the bytes that were read hold from an LSN on, the whole input holds
input-has : (left left_new : Option (List ℕ)) (fed : List ℕ) → Consumes left left_new fed → (from : ℕ) (frames : List (List Rec))
    → (rest : List ℕ) × HasFrames fed from frames rest
    → IfSome left (λ bytes. (rest : List ℕ) × HasFrames bytes from frames rest)
input-has left left_new fed taken from frames has =
    consumes-holds_of_input (λ bytes. (rest : List ℕ) × HasFrames bytes from frames rest) left left_new fed taken
    (λ more. (has.0 ++ more, has_frames-more fed from frames has.0 more has.1))

cause-stopped : (list : OpenedList) (left left_new : Option (List ℕ)) (fed : List ℕ) → Consumes left left_new fed
    → (frames cut : List (List Rec))
    (fault : StandbyFault) → IsReason list fed frames cut fault → IsCause list left left_new frames cut (stream_detail fault)
cause-stopped list left left_new fed taken frames cut (stream.BadStream offset) is =
    (is.0, (is.1.0, is.1.1, is.1.2, consumes-holds_of_input (λ bytes. IsBadBehind is.1.0 bytes offset) left left_new fed taken is.1.3))
cause-stopped list left left_new fed taken frames cut (stream.Gap have from) is =
    (is.0, is.1, is.2, is.3, input-has left left_new fed taken from [] is.4)
cause-stopped list left left_new fed taken frames cut (stream.StreamUnlawful lsn why) is =
    let has = input-has left left_new fed taken (list_end list) (frames ++ is.1.0 ∷ []) (is.1.1, is.1.2) in
    (is.0, (is.1.0, has, is.1.3))
cause-stopped list left left_new fed taken frames cut stream.DiskFault is = inr (is.0, is.2)
cause-stopped list left left_new fed taken frames cut stream.NoMemory is = is

counts-stopped : (fault : StandbyFault) (before now : ℕ) → CountsWhere (fault ≡ stream.DiskFault) before now
    → CountsWhere (stream_detail fault ≡ Disk) before now
counts-stopped (stream.BadStream offset) before now counts = record { counted = λ is. absurd cc; fine = λ other. counts.fine (λ is. cc) }
counts-stopped (stream.Gap have from) before now counts = record { counted = λ is. absurd cc; fine = λ other. counts.fine (λ is. cc) }
counts-stopped (stream.StreamUnlawful lsn why) before now counts =
    record { counted = λ is. absurd cc; fine = λ other. counts.fine (λ is. cc) }
counts-stopped stream.DiskFault before now counts = record { counted = λ is. counts.counted refl; fine = λ other. absurd (other refl) }
counts-stopped stream.NoMemory before now counts = record { counted = λ is. absurd cc; fine = λ other. counts.fine (λ is. cc) }

-- it is no fault of the input
pub stream_detail-not_read : (fault : StandbyFault) → stream_detail fault ≡ Read → ⊥
stream_detail-not_read (stream.BadStream offset) is = cc
stream_detail-not_read (stream.Gap have from) is = cc
stream_detail-not_read (stream.StreamUnlawful lsn why) is = cc
stream_detail-not_read stream.DiskFault is = cc
stream_detail-not_read stream.NoMemory is = cc

-- nothing was written
wrote-none : {D : Type 0} (g : Ghosts D) (base : Base D) → Wrote g base [] base.disk
wrote-none g base = record {
  moments = λ honest. Leaves-refl g.moment g.images_since (HoldsFront base.list []) base.disk;
  count = λ honest. record { successes = omega arith; calls = omega arith };
  grows = λ honest. omega arith;
  later = omega arith;
  honest = (λ is. is, λ is. is);
  attached = refl;
}

-- there was no memory for a standby
pub no_memory-stops_feeding : {D : Type 0} (g : Ghosts D) (list : OpenedList) (judge : Judge) (tail : Tail) (disk : D)
    (left left_new : Option (List ℕ))
    → KeepsList g list judge tail disk → StopsFeeding g (begun list tail disk) left left_new NoMemory disk
no_memory-stops_feeding g list judge tail disk left left_new kept = record {
  frames = [];
  cut = [];
  cause = refl;
  begins = begins-unread left list;
  images = λ honest c image.
      holds_front-none list c (holds-lawful list c kept.each kept.taken.ledger.judged.lawful (kept.stands honest c image).held);
  wrote = wrote-none g (begun list tail disk);
  faults = record { counted = λ is. absurd cc; fine = λ no. refl };
}

module _ {D : Type 0} (g : Ghosts D) (base : Base D) (left left_new : Option (List ℕ)) where
  pub stops-fed : (fed : List ℕ) → Consumes left left_new fed → (fault : StandbyFault) (disk : D) → Stops g base fed fault disk
      → StopsFeeding g base left left_new (stream_detail fault) disk
  stops-fed fed taken fault disk stops = record {
    frames = stops.frames;
    cut = stops.cut;
    cause = cause-stopped base.list left left_new fed taken stops.frames stops.cut fault stops.reason;
    begins = begins-input left left_new fed base.list (stops.frames ++ stops.cut) taken stops.begins;
    images = stops.images;
    wrote = stops.wrote;
    faults = counts-stopped fault _ _ stops.faults;
  }

  -- with no frame in flight, and no fault of the disk
  module _ (s : Standby D) (has : HasFed g base left left_new s) where
    abbrev frames : List (List Rec)
    frames = whole_frames has.follows.came

    abbrev list : OpenedList
    list = with_frames base.list frames

    images-between : g.honest base.disk → (image : List ℕ) → g.images s.disk.now image → HoldsFront list [] image
    images-between honest image left_image =
        let kept = has.follows.applied.kept in
        holds-front-none list image (holds-lawful list image kept.each kept.taken.ledger.judged.lawful
        (kept.stands (has.follows.applied.wrote.honest.0 honest) image left_image).held)

    stops-between : (detail : Detail) → (detail ≡ Disk → ⊥) → IsCause base.list left left_new frames [] detail
        → StopsFeeding g base left left_new detail s.disk.now
    stops-between detail other cause = record {
      frames = frames;
      cut = [];
      cause = cause;
      begins = subst (λ fs. IfSome left (λ bytes. BeginsWithFrames bytes base.list fs)) (sym (append-nil frames))
          (begins-input left left_new has.fed base.list frames has.taken (begins-followed g base has.fed s has.follows));
      images = images-between;
      wrote = subst (λ fs. Wrote g base fs s.disk.now) (sym (append-nil frames)) has.follows.applied.wrote;
      faults = record { counted = λ is. absurd (other is); fine = λ no. has.follows.applied.fine };
    }

    -- the input could not be read
    pub read_failed-stops_feeding : StopsFeeding g base left left_new Read s.disk.now
    read_failed-stops_feeding = stops-between Read (λ is. cc) (
      refl,
      record {
        fed = has.fed;
        taken = has.taken;
        came = has.follows.came;
        has = read-come s.reader has.fed has.follows.came has.follows.read;
        goes_on = has.follows.goes_on;
        whole = refl;
      },
    )

    -- it ended within the stream
    pub stops-early : IfSome left (λ bytes. left_new ≡ Some []) → (fault : StandbyFault) → (offset : ℕ) × (fault ≡ stream.BadStream offset)
        × IsBadBehind has.follows.came has.fed offset → StopsFeeding g base left left_new (stream_detail fault) s.disk.now
    stops-early end fault bad =
        subst (λ f. StopsFeeding g base left left_new (stream_detail f) s.disk.now) (sym bad.1)
        (stops-between (stream_detail (stream.BadStream bad.0)) (λ is. cc) (
          refl,
          (
            has.follows.came,
            refl,
            has.follows.goes_on,
            consumes_all-holds_of_input (λ bytes. IsBadBehind has.follows.came bytes bad.0) left left_new has.fed has.taken end bad.2,
          ),
        ))

-- no read failed
pub counts-no-read : {T : Type 0} (result : Result T Detail) (before now : ℕ) → (result ≡ Err Read → ⊥) → now ≡ before
    → CountsWhere (IsErrOf result Read) before now
counts-no-read result before now other same = record { counted = λ is. absurd (other is); fine = λ no. same }

-- ---- what is promised where the standby was not fed all

module _ {D S : Type 0} (g : Ghosts D) (h : SourceGhosts S) where
  -- that is so whatever would have been made of the whole input
  pub feed_ends_err-any_made : {T U : Type 0} (Made : Base D → T → Type 0) (Other : Base D → U → Type 0) (s t : Standby D) (input script_new : S)
      (detail : Detail) → FeedEnds g h Made s t input script_new (Err detail) → FeedEnds g h Other s t input script_new (Err detail)
  feed_ends_err-any_made Made Other s t input script_new detail ends = record {
    ok = tt;
    stops = ends.stops;
    range = ends.range;
    read = record { counted = λ is. ends.read.counted cc; fine = λ no. ends.read.fine (λ is. no cc) };
    same = ends.same;
  }

  -- the standby went no further, and no read failed
  pub stops_feeding-feed_ends : {T : Type 0} (Made : Base D → T → Type 0) (s t : Standby D) (input script_new : S) (f : StandbyFault)
      → ((base : Base D) → Follows g base [] s
      → StopsFeeding g base (h.left input) (h.left script_new) (stream_detail f) t.disk.now)
      → h.faults script_new ≡ h.faults input → t.disk.ghost_name ≡ s.disk.ghost_name
      → FeedEnds g h Made s t input script_new (Err (stream_detail f))
  stops_feeding-feed_ends Made s t input script_new f stops fine same = record {
    ok = tt;
    stops = stops;
    range = inr (f, refl);
    read = counts-no-read (Err (stream_detail f)) _ _ (λ is. stream_detail-not_read f cc) fine;
    same = same;
  }

-- ---- the input, piece by piece

pub fed-none : {D : Type 0} (g : Ghosts D) (base : Base D) (left left_new : Option (List ℕ)) (s : Standby D) → Consumes left left_new []
    → Follows g base [] s → HasFed g base left left_new s
fed-none g base left left_new s taken follows = record { fed = []; taken = taken; follows = follows }

-- a read that failed takes nothing
pub fed-failed_read : {D : Type 0} (g : Ghosts D) (base : Base D) (left mid left_new : Option (List ℕ)) (s : Standby D) → HasFed g base left mid s
    → Keeps mid left_new → HasFed g base left left_new s
fed-failed_read g base left mid left_new s has kept =
    record { fed = has.fed; taken = Consumes-kept left mid left_new has.fed has.taken kept; follows = has.follows }

pub fed-more : {D : Type 0} (g : Ghosts D) (base : Base D) (left mid left_new : Option (List ℕ)) (s t : Standby D) (piece : List ℕ)
    (has : HasFed g base left mid s) → Consumes mid left_new piece → Follows g base (has.fed ++ piece) t → HasFed g base left left_new t
fed-more g base left mid left_new s t piece has taken follows = record {
  fed = has.fed ++ piece;
  taken = Consumes-trans left mid left_new has.fed piece has.taken taken;
  follows = follows;
}

-- at the end of the input
pub fed-end : {D : Type 0} (g : Ghosts D) (base : Base D) (left mid left_new : Option (List ℕ)) (s : Standby D) (n : ℕ) (buf : List ℕ)
    → HasFed g base left mid s → n ≡ 0 → Consumes mid left_new (take n buf) → IsAtEnd left_new → HasFedAll g base left left_new s
fed-end g base left mid left_new s n buf has none taken end =
    let all = subst (Consumes left left_new) (append-nil has.fed) (Consumes-trans left mid left_new has.fed [] has.taken
    (subst (λ k. Consumes mid left_new (take k buf)) none taken)) in
    record { has = record { fed = has.fed; taken = all; follows = has.follows }; all = consumes_to_end-nothing_left left left_new has.fed all end }

-- a piece at which the standby stopped
pub fed-stopped : {D : Type 0} (g : Ghosts D) (base : Base D) (left mid left_new : Option (List ℕ)) (s : Standby D) (piece : List ℕ)
    (has : HasFed g base left mid s) → Consumes mid left_new piece → (fault : StandbyFault) (disk : D)
    → Stops g base (has.fed ++ piece) fault disk
    → StopsFeeding g base left left_new (stream_detail fault) disk
fed-stopped g base left mid left_new s piece has taken fault disk stops =
    stops-fed g base left left_new (has.fed ++ piece) (Consumes-trans left mid left_new has.fed piece has.taken taken) fault disk stops
