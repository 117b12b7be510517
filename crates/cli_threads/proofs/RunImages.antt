-- What a crash may leave of a run, and what was written, by the turns of the daemon.
use Rattle.std.proofs.Common.{◌≡◌, ◌⊎◌, inl, inr, ⊎_elim, ◌≤◌, ℕ, ◌+◌, ◌*◌, List, [], ◌++◌, length, Option, Some, None, refl, ap, ◌∙◌, sym, subst, arith, append_assoc, append-nil}
use Rattle.std.specs.Io.KnownBytes.{Appends}
use Rattle.std.proofs.KnownBytes.{Appends-nil}
use Rattle.log_disk.proofs.Counting.{Costs-weaken, Costs-none}
use Rattle.log_disk.proofs.Lengths.{GrowsAtMostTo-same}
use Rattle.log_disk.specs.Costs.{Costs}
use Rattle.log_disk.specs.Disk.{Leaves}
use Rattle.log_disk.specs.Lengths.{GrowsAtMostTo}
use Rattle.log_disk.proofs.Moments.{Leaves-refl, Leaves-weaken}
use Rattle.log_disk.specs.Streams.{AppendsPrefix}
use Rattle.log_disk.specs.declared.disk.LogDisk.{Ghosts}
use Rattle.log_disk.specs.declared.sink.Sink.{Ghosts as SinkGhosts}
use Rattle.log_record.specs.declared.rec.Rec.{Rec}
use Rattle.log_record.specs.LogList.{units_of, end_of}
use Rattle.segment_file.specs.Log.{Log, with_units, HoldsLog}
use Rattle.segment_file.specs.Lengths.{most_end}
use Rattle.segment_file.specs.StandingLog.{LogStands}
use Rattle.log_recovery.specs.Opened.{OpenedList, log_of, list_end, with_records, with_front}
use Rattle.log_recovery.proofs.OpenedLemmas.{log_of-with_records}
use Rattle.log_table.specs.Seats.{view_of}
use Rattle.flusher.specs.Flushing.{sent_of}
use Rattle.commit_pipeline.specs.declared.daemon.Daemon.{Daemon}
use Rattle.daemon_turn.specs.declared.fault.DaemonFault.{DaemonFault}
use Rattle.daemon_turn.specs.declared.fault.DaemonFault.TheVariants.{DiskFault, WriteFault}
use Rattle.end_lines.specs.declared.voice.Voice.{Voice}
use Rattle.commit_pipeline.specs.EndLines.{text_of}
use Rattle.flusher.specs.KeptLog.{HoldsFront}
use Rattle.commit_pipeline.specs.Later.{Ran, InFlight, extra, place_of, ring_of}
use Rattle.commit_pipeline.specs.Turning.{IsMade, durable}
use Rattle.commit_pipeline.proofs.Promised.{Ran-images_hold, Ran-appends_prefix, Ran-appends_all, in_flight-read}
use Rattle.commit_pipeline.proofs.ToldLemmas.{text_of-none}

-- the bytes hold the opened records and these
abbrev pub HoldsBoth : OpenedList → List Rec → List ℕ → Type 0
HoldsBoth opened records bytes = HoldsLog bytes (log_of (with_records opened records))

-- the bytes hold the opened records and a front of these
abbrev pub HoldsSome : OpenedList → List Rec → List ℕ → Type 0
HoldsSome opened list bytes = (front rest : List Rec) × (list ≡ front ++ rest) × HoldsBoth opened front bytes

-- What turns do with the records of a run, from the tail at this place on and with a ring of this length: they sent the first of them,
-- and may have written some more. Of the first, a front of the lines was written.
pub record RunSends {D : Type 0} (g : Ghosts D) (voice : Voice) (opened : OpenedList) (list : List Rec) (at ring : ℕ) (before after : D)
    (old new : Option (List ℕ)) : Type 0 where
  pub more : List Rec
  pub cut : List Rec
  pub rest : List Rec
  pub splits : list ≡ (more ++ cut) ++ rest
  pub moments : g.honest before → Leaves g.moment g.images_since (HoldsSome opened list) before after
  pub now : g.honest before → (bytes : List ℕ) → g.images after bytes → HoldsBoth opened more bytes ⊎ HoldsBoth opened (more ++ cut) bytes
  pub text : AppendsPrefix old new (text_of voice (list_end opened) more)
  pub count : g.honest before → Costs g (4 * length more + 4) (4 * length more + 4) before after
  pub grows : g.honest before → GrowsAtMostTo g (most_end at (end_of more) ring) before after

-- and where nothing failed, all lines of the first
pub record RunSent {D : Type 0} (g : Ghosts D) (voice : Voice) (opened : OpenedList) (more : List Rec) (at ring : ℕ) (before after : D)
    (old new : Option (List ℕ)) : Type 0 where
  pub now : g.honest before → (bytes : List ℕ) → g.images after bytes → HoldsBoth opened more bytes
  pub text : Appends old new (text_of voice (list_end opened) more)
  pub count : g.honest before → Costs g (4 * length more) (4 * length more) before after
  pub grows : g.honest before → GrowsAtMostTo g (most_end at (end_of more) ring) before after

-- so turns did from the one daemon to the other
abbrev pub SendsBy : {D : Type 0} {K : Type 0} → (g : Ghosts D) → (h : SinkGhosts K) → OpenedList → List Rec → Daemon D K g h → Daemon D K g h → Type 0
SendsBy g h opened list old new = RunSends g old.voice opened list (place_of old) (ring_of old) old.flusher.disk.now new.flusher.disk.now
    (h.held_bytes old.sink.now) (h.held_bytes new.sink.now)

abbrev pub AreSentBy : {D : Type 0} {K : Type 0} → (g : Ghosts D) → (h : SinkGhosts K) → OpenedList → List Rec → Daemon D K g h → Daemon D K g h → Type 0
AreSentBy g h opened more old new = RunSent g old.voice opened more (place_of old) (ring_of old) old.flusher.disk.now new.flusher.disk.now
    (h.held_bytes old.sink.now) (h.held_bytes new.sink.now)

with-both : (opened : OpenedList) (records more : List Rec) → with_units (with_units (log_of opened) (units_of records)) (units_of more)
    ≡ log_of (with_records opened (records ++ more))
with-both opened records more =
    ap (λ (log : Log). with_units log (units_of more)) (log_of-with_records opened records)
    ∙ log_of-with_records (with_front opened (opened.records ++ records)) more
    ∙ ap (λ (records : List Rec). log_of (with_front opened records)) (append_assoc opened.records records more)

extra-few : (fault : Option DaemonFault) → extra fault ≤ 4
extra-few None = omega arith
extra-few (Some DiskFault) = omega arith
extra-few (Some WriteFault) = omega arith

module _ {D : Type 0} {K : Type 0} (g : Ghosts D) (h : SinkGhosts K) (opened : OpenedList) (list : List Rec) (old new : Daemon D K g h)
    (stand : g.honest old.flusher.disk.now → LogStands old.flusher.tail (log_of opened) (g.images old.flusher.disk.now))
    (made : IsMade old) (start : durable old ≡ list_end opened) where
  standing : g.honest old.flusher.disk.now → (bytes : List ℕ) → g.images old.flusher.disk.now bytes → HoldsBoth opened [] bytes
  standing honest bytes image =
      subst (λ records. HoldsLog bytes (log_of (with_front opened records))) (sym (append-nil opened.records)) (stand honest bytes image).held

  pub SendsBy-refl : SendsBy g h opened list old old
  SendsBy-refl = record {
    more = [];
    cut = [];
    rest = list;
    splits = refl;
    moments = λ honest. Leaves-refl g.moment g.images_since (HoldsSome opened list) old.flusher.disk.now;
    now = λ honest bytes image. inl (standing honest bytes image);
    text = ([], text_of old.voice (list_end opened) [], refl, Appends-nil (h.held_bytes old.sink.now));
    count = λ honest. Costs-weaken g 0 _ 0 _ old.flusher.disk.now old.flusher.disk.now (omega arith) (omega arith)
        (Costs-none g old.flusher.disk.now);
    grows = λ honest. GrowsAtMostTo-same g _ old.flusher.disk.now old.flusher.disk.now refl;
  }

  pub AreSentBy-refl : AreSentBy g h opened [] old old
  AreSentBy-refl = record {
    now = standing;
    text = subst (Appends (h.held_bytes old.sink.now) (h.held_bytes old.sink.now)) (text_of-none old.voice (list_end opened))
        (Appends-nil (h.held_bytes old.sink.now));
    count = λ honest. Costs-weaken g 0 _ 0 _ old.flusher.disk.now old.flusher.disk.now (omega arith) (omega arith)
        (Costs-none g old.flusher.disk.now);
    grows = λ honest. GrowsAtMostTo-same g _ old.flusher.disk.now old.flusher.disk.now refl;
  }

  module _ (ran : Ran g h old new) where
    pub Ran-sent_units : sent_of new.flusher ≡ units_of ran.more
    Ran-sent_units = ran.sent ∙ ap (λ l. l ++ units_of ran.more) made.unsent

    pub Ran-read_units : (view_of new.flusher.seat).sending.read ≡ units_of ran.cut
    Ran-read_units = in_flight-read new.fault (view_of new.flusher.seat) ran.cut ran.in_flight

    torn-now : g.honest old.flusher.disk.now → (bytes : List ℕ) → g.images new.flusher.disk.now bytes
        → HoldsBoth opened ran.more bytes ⊎ HoldsBoth opened (ran.more ++ ran.cut) bytes
    torn-now honest bytes image =
        ⊎_elim (λ held. inl (subst (HoldsLog bytes) (log_of-with_records opened ran.more) held))
        (λ held. inr (subst (HoldsLog bytes) (with-both opened ran.more ran.cut) held))
        (Ran-images_hold g h old new made ran honest (log_of opened) (stand honest) bytes image)

    -- the text is a front of the lines of what was sent
    text-front : AppendsPrefix (h.held_bytes old.sink.now) (h.held_bytes new.sink.now) (text_of old.voice (list_end opened) ran.more)
    text-front = subst (λ at. AppendsPrefix (h.held_bytes old.sink.now) (h.held_bytes new.sink.now) (text_of old.voice at ran.more)) start
        (Ran-appends_prefix g h old new made ran)

    pub Ran-sends_by : (rest : List Rec) → list ≡ (ran.more ++ ran.cut) ++ rest → SendsBy g h opened list old new
    Ran-sends_by rest splits = record {
      more = ran.more;
      cut = ran.cut;
      rest = rest;
      splits = splits;
      moments = λ honest. Leaves-weaken g.moment g.images_since
          (HoldsFront (log_of opened) (ran.more ++ ran.cut)) (HoldsSome opened list)
          old.flusher.disk.now new.flusher.disk.now
          (λ bytes held. (
            held.front,
            held.rest ++ rest,
            splits ∙ ap (λ l. l ++ rest) held.whole ∙ append_assoc held.front held.rest rest,
            subst (HoldsLog bytes) (log_of-with_records opened held.front) held.holds,
          ))
          (ran.moments honest (log_of opened) (stand honest));
      now = torn-now;
      text = text-front;
      count = λ honest. let most = extra-few new.fault in
          Costs-weaken g _ _ _ _ old.flusher.disk.now new.flusher.disk.now (omega (arith, most)) (omega (arith, most)) (ran.count honest);
      grows = ran.grows;
    }

    pub Ran-are_sent_by : new.fault ≡ None → AreSentBy g h opened ran.more old new
    Ran-are_sent_by fine =
        let none : ran.cut ≡ [] = (subst (λ fault. InFlight fault (view_of new.flusher.seat) ran.cut) fine ran.in_flight).0 in
        let extra_none : extra new.fault ≡ 0 = ap extra fine in
        record {
          now = λ honest bytes image. ⊎_elim (λ held. held)
              (λ held. subst (λ (records : List Rec). HoldsBoth opened records bytes)
              (ap (λ l. ran.more ++ l) none ∙ append-nil ran.more) held)
              (torn-now honest bytes image);
          text = subst (λ at. Appends (h.held_bytes old.sink.now) (h.held_bytes new.sink.now) (text_of old.voice at ran.more)) start
              (Ran-appends_all g h old new made ran fine);
          count = λ honest. Costs-weaken g _ _ _ _ old.flusher.disk.now new.flusher.disk.now (omega (arith, extra_none))
              (omega (arith, extra_none)) (ran.count honest);
          grows = ran.grows;
        }
