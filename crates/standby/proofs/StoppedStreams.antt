-- How a standby stops at a frame.
use Rattle.std.proofs.Common.{◌≡◌, ◌≤◌, ◌∙◌, sym, ap, refl, subst, inr, ℕ, ◌+◌, List, [], ◌∷◌, ◌++◌, append_assoc, append-nil, arith}
use Rattle.std.specs.List.{flat_map}
use Rattle.log_disk.specs.Faults.{Rose}
use Rattle.log_disk.specs.declared.disk.LogDisk.{Ghosts}
use Rattle.log_disk.proofs.Moments.{Leaves-images_now}
use Rattle.log_record.specs.declared.rec.Rec.{Rec}
use Rattle.log_record.specs.LogList.{AreUnitsOf, end_of}
use Rattle.log_record.proofs.LogListLemmas.{end_of-append}
use Rattle.lock_core.specs.Faults.{IsUnlawfulAt}
use Rattle.lock_core.specs.declared.judge.Judge.{Judge}
use Rattle.lock_core.proofs.ListLemmas.{all-split}
use Rattle.log_recovery.specs.Opened.{OpenedList, list_end, opening_before, placed, with_records}
use Rattle.ship_stream.specs.Stream.{head_bytes, frame_bytes, records_of, HasFrames, IsFrame}
use Rattle.ship_stream.specs.Came.{Came, HasCome}
use Rattle.ship_stream.proofs.StreamLemmas.{records_of-append}
use Rattle.stream_reader.specs.Reader.{HasRead}
use Rattle.stream_reader.specs.declared.reader.StreamReader.{StreamReader}
use Rattle.stream_reader.proofs.ReaderLemmas.{has-come}
use Rattle.standby.specs.declared.standby.Standby.{Standby}
use Rattle.standby.specs.declared.fault.StandbyFault.{StandbyFault}
use Rattle.standby.specs.declared.fault.StandbyFault.TheVariants.{BadStream, Gap, StreamUnlawful, DiskFault, NoMemory}
use Rattle.standby.specs.AppliedFrames.{Base, with_frames, HoldsFront, Wrote}
use Rattle.standby.specs.Following.{BeginsWithFrames, HasFrame, Stops}
use Rattle.standby.specs.TakenList.{HasTakenList, IsFrameFault}
use Rattle.standby.proofs.AppliedFrames.{WroteFrame, wrote-push, frame-leaves_holds_front}
use Rattle.standby.proofs.FrameLists.{all_frames-last_is_frame, with_frames-push, holds-front-none, holds-front-more, holds-lawful}

-- ---- frames and bytes

bytes-append : (xs ys : List (List Rec)) → flat_map frame_bytes (xs ++ ys) ≡ flat_map frame_bytes xs ++ flat_map frame_bytes ys
bytes-append [] ys = refl
bytes-append (x ∷ xs) ys =
    ap (λ bytes. frame_bytes x ++ bytes) (bytes-append xs ys)
    ∙ sym (append_assoc (frame_bytes x) (flat_map frame_bytes xs) (flat_map frame_bytes ys))

-- the first of some frames are the first of the stream
pub has_frames-front : (bytes : List ℕ) (first : ℕ) (frames more : List (List Rec)) (rest : List ℕ) → HasFrames bytes first (frames ++ more) rest
    → HasFrames bytes first frames (flat_map frame_bytes more ++ rest)
has_frames-front bytes first frames more rest has =
    let head : List ℕ = head_bytes first in
    let these : List ℕ = flat_map frame_bytes frames in
    let those : List ℕ = flat_map frame_bytes more in
    record {
      each = (all-split IsFrame frames more has.each).0;
      total = omega (arith, has.total, ap end_of (records_of-append frames more), end_of-append (records_of frames) (records_of more));
      whole = has.whole ∙ ap (λ b. (head ++ b) ++ rest) (bytes-append frames more)
          ∙ ap (λ b. b ++ rest) (sym (append_assoc head these those))
          ∙ append_assoc (head ++ these) those rest;
    }

pub begins_with_frames-append_none : (fed : List ℕ) (list : OpenedList) (frames : List (List Rec)) → BeginsWithFrames fed list frames
    → BeginsWithFrames fed list (frames ++ [])
begins_with_frames-append_none fed list frames begins = subst (BeginsWithFrames fed list) (sym (append-nil frames)) begins

-- ---- what was read

-- a reader has read what has come
pub read-come : (reader : StreamReader) (fed : List ℕ) (came : Came) → HasRead reader fed came → HasCome fed came
read-come reader fed came read = has-come reader.at reader.next reader.batch.room reader.batch.units reader.begun fed reader.stage came read

-- ---- a frame that is held

module _ {D : Type 0} (g : Ghosts D) (base : Base D) (fed : List ℕ) (frames : List (List Rec)) (records : List Rec) (s : Standby D)
    (h : HasFrame g base fed frames records s) where
  abbrev pub before : OpenedList
  before = with_frames base.list frames

  abbrev left : List ℕ
  left = (read-come s.reader fed _ h.read).0

  has : HasFrames fed (list_end base.list) (frames ++ records ∷ []) left
  has = (read-come s.reader fed _ h.read).1

  pub has_frame-is_frame : IsFrame records
  has_frame-is_frame = all_frames-last_is_frame frames records has.each

  pub has_frame-batch_are_units_of : AreUnitsOf s.reader.batch.units records
  has_frame-batch_are_units_of = record { spellable = has_frame-is_frame.spellable; units_are = h.holds }

  -- each image holds what was applied
  pub has_frame-images_hold_applied : g.honest base.disk → (c : List ℕ) → g.images s.disk.now c → HoldsFront before [] c
  has_frame-images_hold_applied honest c image =
      holds-front-none before c
      (holds-lawful before c h.applied.kept.each h.applied.kept.taken.ledger.judged.lawful
      (h.applied.kept.stands (h.applied.wrote.honest.0 honest) c image).held)

  -- the judge refused it, or had no memory
  pub stops-judging : (fault : StandbyFault) → IsFrameFault before records fault → Stops g base fed fault s.disk.now
  stops-judging (BadStream offset) is = absurd is
  stops-judging (Gap have from) is = absurd is
  stops-judging (StreamUnlawful lsn why) is = record {
    frames = frames;
    cut = [];
    reason = (
      refl,
      (
        records,
        left,
        has,
        subst (λ l. IsUnlawfulAt (opening_before base.list) (placed l) lsn why) (with_frames-push base.list frames records) is,
      ),
    );
    begins = begins_with_frames-append_none fed base.list frames (inr (_, has_frames-front fed _ frames (records ∷ []) left has));
    images = has_frame-images_hold_applied;
    wrote = subst (λ fs. Wrote g base fs s.disk.now) (sym (append-nil frames)) h.applied.wrote;
    faults = record { counted = λ is. absurd cc; fine = λ no. h.applied.fine };
  }
  stops-judging DiskFault is = absurd is
  stops-judging NoMemory is = record {
    frames = frames;
    cut = [];
    reason = refl;
    begins = begins_with_frames-append_none fed base.list frames (inr (_, has_frames-front fed _ frames (records ∷ []) left has));
    images = has_frame-images_hold_applied;
    wrote = subst (λ fs. Wrote g base fs s.disk.now) (sym (append-nil frames)) h.applied.wrote;
    faults = record { counted = λ is. absurd cc; fine = λ no. h.applied.fine };
  }

  -- the disk failed to take it
  module _ (counts_now : (disk : D) (t : ℕ) (c : List ℕ) → t ≤ g.moment disk → g.images disk c → g.images_since disk t c)
      (only_now : (disk : D) (c : List ℕ) → g.images_since disk (g.moment disk) c → g.images disk c)
      (later : Judge) (taken : HasTakenList (with_records before records) later) (disk : D)
      (wrote : WroteFrame g s.tail s.reader.batch.units s.disk.now disk) (rose : Rose (g.faults s.disk.now) (g.faults disk)) where
    pub stops-writing : Stops g base fed DiskFault disk
    stops-writing = record {
      frames = frames;
      cut = records ∷ [];
      reason = (records, left, refl, has);
      begins = inr (left, has);
      images = λ honest.
          Leaves-images_now g.moment g.images_since g.images counts_now _ s.disk.now disk only_now
          (λ c image. holds-front-more before c [] (records ∷ []) (has_frame-images_hold_applied honest c image))
          (frame-leaves_holds_front g base frames s.judge s.tail s.disk.now h.applied records s.reader.batch.units h.holds has_frame-is_frame.spellable later
          taken disk wrote
          (h.applied.wrote.honest.0 honest));
      wrote = wrote-push g base frames s.judge s.tail s.disk.now h.applied records s.reader.batch.units h.holds has_frame-is_frame.spellable later
          taken disk wrote;
      faults = record { counted = λ is. subst (λ n. Rose n (g.faults disk)) h.applied.fine rose; fine = λ no. absurd (no refl) };
    }
