-- How a standby goes on, part by part of the stream.
use Rattle.std.proofs.Common.{◌≡◌, ◌≢◌, ◌∙◌, sym, ap, refl, subst, inl, inr, ℕ, List, [], ◌∷◌, ◌++◌, take, drop, append_assoc, append-nil}
use Rattle.std.proofs.lemmas.List.{take-append-drop}
use Rattle.log_disk.specs.Disk.{Leaves}
use Rattle.log_disk.specs.declared.disk.LogDisk.{Ghosts}
use Rattle.log_disk.proofs.Moments.{Leaves-weaken}
use Rattle.log_record.specs.declared.rec.Rec.{Rec}
use Rattle.log_recovery.specs.Opened.{OpenedList, list_end}
use Rattle.ship_stream.specs.Stream.{end_bytes, HasFrames}
use Rattle.ship_stream.specs.Came.{Came, HasCome, IsBadBehind, IsWhole}
use Rattle.ship_stream.specs.Came.Came.{NoHead, Open, Whole}
use Rattle.ship_stream.proofs.StreamLemmas.{one_stream-come}
use Rattle.stream_reader.specs.Advance.{AddsFrame}
use Rattle.stream_reader.specs.Reader.{HasRead}
use Rattle.stream_reader.specs.declared.reader.StreamReader.{StreamReader}
use Rattle.stream_reader.proofs.ReaderLemmas.{has_frames-more}
use Rattle.standby.specs.declared.standby.Fed.TheVariants.{More}
use Rattle.standby.specs.declared.standby.Standby.{Standby}
use Rattle.standby.specs.declared.fault.StandbyFault.{StandbyFault}
use Rattle.standby.specs.declared.fault.StandbyFault.TheVariants.{BadStream, Gap, StreamUnlawful, DiskFault, NoMemory}
use Rattle.standby.specs.AppliedFrames.{Base, with_frames, HoldsFront, Wrote, HasApplied}
use Rattle.standby.specs.Following.{BeginsWithFrames, Follows, GoesOn, HasFollowed, HasFrame, HoldsFollowed, IsReason, Stops, TellsEnd, whole_frames}
use Rattle.standby.proofs.FrameLists.{holds-front-none, holds-lawful}
use Rattle.standby.proofs.JudgedFrames.{with_records-none}
use Rattle.standby.proofs.StoppedStreams.{begins_with_frames-append_none, has_frames-front, read-come}

-- ---- the frames that have come

begins-come : (list : OpenedList) (fed : List ℕ) (came : Came) → GoesOn list came → HasCome fed came
    → BeginsWithFrames fed list (whole_frames came)
begins-come list fed NoHead goes come = inl refl
begins-come list fed (Open first frames) goes come = inr (come.0, subst (λ n. HasFrames fed n frames come.0) goes come.1)
begins-come list fed (Whole first frames) goes come = inr (end_bytes, subst (λ n. HasFrames fed n frames end_bytes) goes come)

pub begins-longer : (fed more : List ℕ) (list : OpenedList) (frames : List (List Rec)) → BeginsWithFrames fed list frames
    → BeginsWithFrames (fed ++ more) list frames
begins-longer fed more list frames (inl none) = inl none
begins-longer fed more list frames (inr has) = inr (has.0 ++ more, has_frames-more fed _ frames has.0 more has.1)

-- ---- a stop in whole parts

module _ {D : Type 0} (g : Ghosts D) (base : Base D) (fed : List ℕ) (s : Standby D) (follows : Follows g base fed s) where
  pub begins-followed : BeginsWithFrames fed base.list (whole_frames follows.came)
  begins-followed = begins-come base.list fed follows.came follows.goes_on (read-come s.reader fed follows.came follows.read)

  images-followed : g.honest base.disk → (c : List ℕ) → g.images s.disk.now c
      → HoldsFront (with_frames base.list (whole_frames follows.came)) [] c
  images-followed honest c image =
      let kept = follows.applied.kept in
      let list : OpenedList = with_frames base.list (whole_frames follows.came) in
      holds-front-none list c
      (holds-lawful list c kept.each kept.taken.ledger.judged.lawful (kept.stands (follows.applied.wrote.honest.0 honest) c image).held)

  -- with no frame in flight
  pub follows-stops_between_frames : (more : List ℕ) (fault : StandbyFault) → (fault ≡ DiskFault → ⊥)
      → IsReason base.list (fed ++ more) (whole_frames follows.came) [] fault
      → Stops g base (fed ++ more) fault s.disk.now
  follows-stops_between_frames more fault other reason = record {
    frames = whole_frames follows.came;
    cut = [];
    reason = reason;
    begins = begins_with_frames-append_none (fed ++ more) base.list _ (begins-longer fed more base.list _ begins-followed);
    images = images-followed;
    wrote = subst (λ fs. Wrote g base fs s.disk.now) (sym (append-nil (whole_frames follows.came))) follows.applied.wrote;
    faults = record { counted = λ is. absurd (other is); fine = λ no. follows.applied.fine };
  }

  -- at a part that is cut or outside the grammar
  pub stops-bad : (piece : List ℕ) (offset : ℕ) → ((more : List ℕ) → IsBadBehind follows.came (fed ++ piece ++ more) offset)
      → Stops g base (fed ++ piece) (BadStream offset) s.disk.now
  stops-bad piece offset bad = follows-stops_between_frames piece (BadStream offset) (λ is. cc) (refl, (follows.came, refl, follows.goes_on, bad))

  module _ (reader : StreamReader) (longer : List ℕ) where
    abbrev later : Standby D
    later = record s { reader = reader }

    -- a frame
    pub follows-has_frame : (adds : AddsFrame follows.came reader longer) → HasFrame g base longer adds.frames adds.records later
    follows-has_frame adds =
        let goes : adds.first ≡ list_end base.list = subst (GoesOn base.list) adds.before follows.goes_on in record {
          read = subst (λ n. HasRead reader longer (Open n (adds.frames ++ adds.records ∷ []))) goes adds.read;
          holds = adds.units;
          applied = subst (λ c. HasApplied g base (whole_frames c) s.judge s.tail s.disk.now) adds.before follows.applied;
        }

-- a head that doesn't go on where the list ends
pub stops-gap : {D : Type 0} (g : Ghosts D) (base : Base D) (fed piece rest : List ℕ) (s : Standby D) (reader : StreamReader) (first : ℕ)
    (follows : Follows g base fed s) → follows.came ≡ NoHead → HasRead reader (fed ++ piece) (Open first []) → first ≢ s.tail.next
    → Stops g base (fed ++ (piece ++ rest)) (Gap s.tail.next first) s.disk.now
stops-gap g base fed piece rest s reader first follows none read other =
    let come = read-come reader (fed ++ piece) (Open first []) read in
    let frames : whole_frames follows.came ≡ [] = ap whole_frames none in
    let next : s.tail.next ≡ list_end base.list =
    follows.applied.kept.next ∙ ap (λ fs. list_end (with_frames base.list fs)) frames ∙ ap list_end (with_records-none base.list) in
    follows-stops_between_frames g base fed s follows (piece ++ rest) (Gap s.tail.next first) (λ is. cc) (
      refl,
      frames,
      next,
      other,
      (
        come.0 ++ rest,
        subst (λ b. HasFrames b first [] (come.0 ++ rest)) (append_assoc fed piece rest)
            (has_frames-more (fed ++ piece) first [] come.0 rest come.1),
      ),
    )

-- ---- what more bytes leave of a stop

reason-longer : (list : OpenedList) (fed more : List ℕ) (frames cut : List (List Rec)) (fault : StandbyFault)
    → IsReason list fed frames cut fault
    → IsReason list (fed ++ more) frames cut fault
reason-longer list fed more frames cut (BadStream offset) is = (
  is.0,
  (
    is.1.0,
    is.1.1,
    is.1.2,
    λ last. subst (λ b. IsBadBehind is.1.0 b offset) (sym (append_assoc fed more last))
        (is.1.3 (more ++ last)),
  ),
)
reason-longer list fed more frames cut (Gap have from) is =
    (is.0, is.1, is.2, is.3, (is.4.0 ++ more, has_frames-more fed from [] is.4.0 more is.4.1))
reason-longer list fed more frames cut (StreamUnlawful lsn why) is =
    (is.0, (is.1.0, is.1.1 ++ more, has_frames-more fed _ _ is.1.1 more is.1.2, is.1.3))
reason-longer list fed more frames cut DiskFault is = (is.0, is.1 ++ more, is.2, has_frames-more fed _ _ is.1 more is.3)
reason-longer list fed more frames cut NoMemory is = is

pub stops-longer : {D : Type 0} (g : Ghosts D) (base : Base D) (fed more : List ℕ) (fault : StandbyFault) (disk : D)
    → Stops g base fed fault disk
    → Stops g base (fed ++ more) fault disk
stops-longer g base fed more fault disk stops = record {
  frames = stops.frames;
  cut = stops.cut;
  reason = reason-longer base.list fed more stops.frames stops.cut fault stops.reason;
  begins = begins-longer fed more base.list (stops.frames ++ stops.cut) stops.begins;
  images = stops.images;
  wrote = stops.wrote;
  faults = stops.faults;
}

-- ---- what each image holds

no-front : {T : Type 0} (xs ys : List T) → [] ≡ xs ++ ys → xs ≡ []
no-front [] ys none = refl
no-front (x ∷ xs) ys none = absurd cc

pub holds-followed : (list : OpenedList) (fed : List ℕ) (frames : List (List Rec)) → BeginsWithFrames fed list frames → (c : List ℕ)
    → HoldsFront list frames c
    → HoldsFollowed list fed c
holds-followed list fed frames (inl none) c held =
    record { frames = held.front; begins = inl (no-front held.front held.rest (sym none ∙ held.whole)); holds = held.holds }
holds-followed list fed frames (inr has) c held = record {
  frames = held.front;
  begins = inr (_, has_frames-front fed _ held.front held.rest has.0 (subst (λ fs. HasFrames fed (list_end list) fs has.0) held.whole has.1));
  holds = held.holds;
}

wrote-followed : {D : Type 0} (g : Ghosts D) (base : Base D) (fed : List ℕ) (frames : List (List Rec)) (disk : D)
    → BeginsWithFrames fed base.list frames
    → Wrote g base frames disk → g.honest base.disk → Leaves g.moment g.images_since (HoldsFollowed base.list fed) base.disk disk
wrote-followed g base fed frames disk begins wrote honest =
    Leaves-weaken g.moment g.images_since _ _ base.disk disk (holds-followed base.list fed frames begins) (wrote.moments honest)

pub follows-leaves_followed : {D : Type 0} (g : Ghosts D) (base : Base D) (fed : List ℕ) (s : Standby D) → Follows g base fed s → g.honest base.disk
    → Leaves g.moment g.images_since (HoldsFollowed base.list fed) base.disk s.disk.now
follows-leaves_followed g base fed s follows =
    wrote-followed g base fed (whole_frames follows.came) s.disk.now (begins-followed g base fed s follows) follows.applied.wrote

pub stops-leaves_followed : {D : Type 0} (g : Ghosts D) (base : Base D) (fed : List ℕ) (fault : StandbyFault) (disk : D)
    → Stops g base fed fault disk
    → g.honest base.disk → Leaves g.moment g.images_since (HoldsFollowed base.list fed) base.disk disk
stops-leaves_followed g base fed fault disk stops = wrote-followed g base fed (stops.frames ++ stops.cut) disk stops.begins stops.wrote

-- ---- the end

pub tells-more : {D : Type 0} (g : Ghosts D) (base : Base D) (fed : List ℕ) (s : Standby D) (follows : Follows g base fed s)
    → (IsWhole follows.came → ⊥) → TellsEnd fed More
tells-more g base fed s follows part ended =
    let same = one_stream-come fed follows.came (Whole ended.0 ended.1) (read-come s.reader fed follows.came follows.read) ended.2 in
    part (subst IsWhole (sym same) tt)

followed-by : {D : Type 0} (g : Ghosts D) (base : Base D) (fed : List ℕ) (s : Standby D) (came : Came) → GoesOn base.list came
    → HasCome fed came
    → HasApplied g base (whole_frames came) s.judge s.tail s.disk.now → IsWhole came → HasFollowed g base fed s.tail.next s
followed-by g base fed s NoHead goes come applied whole = absurd whole
followed-by g base fed s (Open first frames) goes come applied whole = absurd whole
followed-by g base fed s (Whole first frames) goes come applied whole = record {
  first = first;
  frames = frames;
  ended = come;
  goes_on = goes;
  applied = applied;
  lsn_is = applied.kept.next;
}

pub has-followed : {D : Type 0} (g : Ghosts D) (base : Base D) (fed : List ℕ) (s : Standby D) (follows : Follows g base fed s)
    → IsWhole follows.came
    → HasFollowed g base fed s.tail.next s
has-followed g base fed s follows whole =
    followed-by g base fed s follows.came follows.goes_on (read-come s.reader fed follows.came follows.read) follows.applied whole

-- ---- piece by piece

-- of these bytes the standby has taken all but this rest
pub record HasPassed {D : Type 0} (g : Ghosts D) (old new : Standby D) (bytes rest : List ℕ) : Type 0 where
  pub front : List ℕ
  pub whole : bytes ≡ front ++ rest
  pub follows : (base : Base D) (fed : List ℕ) → Follows g base fed old → Follows g base (fed ++ front) new

pub passed-more : {D : Type 0} (g : Ghosts D) (old new later : Standby D) (bytes rest after : List ℕ) (used : ℕ)
    → HasPassed g old new bytes rest
    → after ≡ drop used rest → ((base : Base D) (fed : List ℕ) → Follows g base fed new → Follows g base (fed ++ take used rest) later)
    → HasPassed g old later bytes after
passed-more g old new later bytes rest after used passed dropped step = record {
  front = passed.front ++ take used rest;
  whole = passed.whole ∙ ap (λ b. passed.front ++ b) (sym (take-append-drop used rest) ∙ ap (λ b. take used rest ++ b) (sym dropped))
      ∙ sym (append_assoc passed.front (take used rest) after);
  follows = λ base fed follows.
      subst (λ b. Follows g base b later) (append_assoc fed passed.front (take used rest))
      (step base (fed ++ passed.front) (passed.follows base fed follows));
}

pub passed-stops : {D : Type 0} (g : Ghosts D) (old new : Standby D) (bytes rest : List ℕ) (fault : StandbyFault) (disk : D)
    → HasPassed g old new bytes rest
    → ((base : Base D) (fed : List ℕ) → Follows g base fed new → Stops g base (fed ++ rest) fault disk)
    → (base : Base D) (fed : List ℕ) → Follows g base fed old → Stops g base (fed ++ bytes) fault disk
passed-stops g old new bytes rest fault disk passed stops base fed follows =
    subst (λ b. Stops g base b fault disk) (append_assoc fed passed.front rest ∙ ap (λ b. fed ++ b) (sym passed.whole))
    (stops base (fed ++ passed.front) (passed.follows base fed follows))

pub passed_all-follows : {D : Type 0} (g : Ghosts D) (old new : Standby D) (bytes rest : List ℕ) → HasPassed g old new bytes rest → rest ≡ []
    → (base : Base D) (fed : List ℕ) → Follows g base fed old → Follows g base (fed ++ bytes) new
passed_all-follows g old new bytes rest passed none base fed follows =
    subst (λ b. Follows g base b new)
    (ap (λ b. fed ++ b) (sym (passed.whole ∙ ap (λ b. passed.front ++ b) none ∙ append-nil passed.front)))
    (passed.follows base fed follows)
