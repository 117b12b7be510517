-- Turns one after another.
use Rattle.std.proofs.Common.{◌≡◌, ◌≢◌, ◌<◌, ◌∙◌, sym, ap, refl, subst, inl, inr, ℕ, ◌+◌, ◌*◌, List, [], ◌++◌, length, length-append, append_assoc, append-nil, arith, Option, Some, None}
use Rattle.std.proofs.lemmas.List.Concat.{flat_map-append}
use Rattle.std.specs.List.{AllByRecursion}
use Rattle.log_disk.specs.Costs.{Costs}
use Rattle.log_disk.specs.Disk.{Leaves}
use Rattle.log_disk.specs.Lengths.{GrowsAtMostTo}
use Rattle.log_disk.specs.declared.disk.LogDisk.{Ghosts}
use Rattle.log_disk.specs.declared.sink.Sink.{Ghosts as SinkGhosts}
use Rattle.log_disk.proofs.Counting.{Costs-weaken, Costs-trans, CountsWhere-same_before}
use Rattle.log_disk.proofs.Lengths.{GrowsAtMostTo-weaken, GrowsAtMostTo-trans}
use Rattle.log_disk.proofs.Moments.{Leaves-trans, Leaves-weaken}
use Rattle.log_record.specs.declared.rec.Rec.{Rec}
use Rattle.log_record.specs.LogList.{units_of, end_of}
use Rattle.log_record.specs.Spelling.{spelling, IsSpellable}
use Rattle.log_table.specs.Seats.{view_of}
use Rattle.log_rule.specs.declared.view.Constants.{Constants}
use Rattle.log_rule.specs.declared.view.View.{View}
use Rattle.segment_file.specs.Log.{Log, with_units, HoldsLog}
use Rattle.segment_file.proofs.LogLemmas.{with_units-append}
use Rattle.segment_file.specs.Lengths.{most_end}
use Rattle.segment_file.specs.StandingLog.{LogStands}
use Rattle.flusher.specs.Flushing.{sent_of}
use Rattle.daemon_turn.proofs.SameLemmas.{IsSame-refl, IsSame-trans}
use Rattle.lsn_space.proofs.TilingLemmas.{all-append}
use Rattle.commit_pipeline.specs.declared.daemon.Daemon.{Daemon}
use Rattle.daemon_turn.specs.declared.fault.DaemonFault.{DaemonFault}
use Rattle.daemon_turn.specs.declared.fault.DaemonFault.TheVariants.{DiskFault, WriteFault}
use Rattle.end_lines.specs.declared.tally.Tally.{Tally}
use Rattle.end_lines.specs.declared.voice.Voice.{Voice}
use Rattle.end_lines.specs.declared.voice.Voice.TheVariants.{Lines, Count}
use Rattle.end_lines.specs.EndLines.{text_of}
use Rattle.flusher.specs.KeptLog.{HoldsFront}
use Rattle.flusher.proofs.Keeps.{HoldsFront-more}
use Rattle.commit_pipeline.specs.Later.{InFlight, HasReason, StopTells, extra, place_of, ring_of, Ran, Later}
use Rattle.end_lines.specs.Telling.{TellsFront, counted}
use Rattle.commit_pipeline.specs.Turning.{IsSameDaemon}
use Rattle.end_lines.proofs.LineLemmas.{text_of-append, counted-append}

pub IsSameDaemon-trans : {D : Type 0} {K : Type 0} {h : SinkGhosts K} (g : Ghosts D) (a b c : Daemon D K g h)
    → IsSameDaemon g a b → IsSameDaemon g b c → IsSameDaemon g a c
IsSameDaemon-trans g a b c first second = record {
  flusher = IsSame-trans g a.flusher b.flusher c.flusher first.flusher second.flusher;
  sink = second.sink ∙ first.sink;
  voice = second.voice ∙ first.voice;
  first = second.first ∙ first.first;
  begun = second.begun ∙ first.begun;
}

pub IsSameDaemon-refl : {D : Type 0} {K : Type 0} {h : SinkGhosts K} (g : Ghosts D) (d : Daemon D K g h) → IsSameDaemon g d d
IsSameDaemon-refl g d =
    record { flusher = IsSame-refl g d.flusher; sink = refl; voice = refl; first = refl; begun = refl }

-- a front of what follows the first few is, behind these, a front of all
HoldsFront-behind : (before : Log) (done more : List Rec) (bytes : List ℕ) → HoldsFront (with_units before (units_of done)) more bytes
    → HoldsFront before (done ++ more) bytes
HoldsFront-behind before done more bytes some = record {
  front = done ++ some.front;
  rest = some.rest;
  whole = ap (λ rs. done ++ rs) some.whole ∙ sym (append_assoc done some.front some.rest);
  holds = subst (HoldsLog bytes) (with_units-append before (units_of done) (units_of some.front)
      ∙ ap (λ us. with_units before us) (sym (flat_map-append spelling done some.front))) some.holds;
}

-- what was written then is a front of the lines of all the records, and not all
pub TellsFront-proper_front : (voice : Voice) (at : ℕ) (records : List Rec) (text : List ℕ) (before after : Tally)
    → TellsFront voice at records text before after → (rest : List ℕ) × (0 < length rest) × (text_of voice at records ≡ text ++ rest)
TellsFront-proper_front voice at records text before after front =
    let later : List ℕ = text_of voice (at + length (units_of front.told)) front.untold in (
      front.unwritten ++ later,
      omega (arith, front.some, length-append front.unwritten later),
      ap (text_of voice at) front.whole ∙ text_of-append voice at front.told front.untold ∙ ap (λ us. us ++ later) front.lines
          ∙ append_assoc text front.unwritten later,
    )

pub TellsFront-front : (voice : Voice) (at : ℕ) (records : List Rec) (text : List ℕ) (before after : Tally)
    → TellsFront voice at records text before after → (rest : List ℕ) × (text_of voice at records ≡ text ++ rest)
TellsFront-front voice at records text before after front =
    let part = TellsFront-proper_front voice at records text before after front in (part.0, part.2)

-- a daemon that only counts has no line to fail at
pub TellsFront-voice_lines : (voice : Voice) (at : ℕ) (records : List Rec) (text : List ℕ) (before after : Tally)
    → TellsFront voice at records text before after → voice ≡ Lines
TellsFront-voice_lines Lines at records text before after front = refl
TellsFront-voice_lines Count at records text before after front =
    absurd (omega (arith, front.some, ap length front.lines, length-append text front.unwritten))

pub none≢some : (fault : DaemonFault) → None ≢ Some fault
none≢some fault same = subst (λ o. IsNone o) same tt
  where
    IsNone : Option DaemonFault → Type 0
    IsNone None = Unit {0}
    IsNone (Some fault) = ⊥

-- without a fault no records are in flight
none-in_flight : (fault : Option DaemonFault) (view : View) (cut : List Rec) → fault ≡ None → InFlight fault view cut → cut ≡ []
none-in_flight fault view cut fine flight = (subst (λ f. InFlight f view cut) fine flight).0

extra-fine : (fault : Option DaemonFault) → fault ≡ None → extra fault ≡ 0
extra-fine fault fine = ap extra fine

module _ {D : Type 0} {K : Type 0} (g : Ghosts D) (h : SinkGhosts K) (a b c : Daemon D K g h) (first : Ran g h a b)
    (second : Ran g h b c) where
  fine : b.fault ≡ None
  fine = second.was_fine

  abbrev kept : (fault : DaemonFault) → b.fault ≢ Some fault
  kept fault is = none≢some fault (sym fine ∙ is)

  no_cut : first.more ++ first.cut ≡ first.more
  no_cut = ap (λ rs. first.more ++ rs) (none-in_flight b.fault _ first.cut fine first.in_flight) ∙ append-nil first.more

  ends : end_of (first.more ++ second.more) ≡ end_of first.more + end_of second.more
  ends = ap length (flat_map-append spelling first.more second.more) ∙ length-append (units_of first.more) (units_of second.more)

  records : (first.more ++ second.more) ++ second.cut ≡ first.more ++ (second.more ++ second.cut)
  records = append_assoc first.more second.more second.cut

  HoldsFront-first : (log : Log) (bytes : List ℕ) → HoldsFront log (first.more ++ first.cut) bytes
      → HoldsFront log ((first.more ++ second.more) ++ second.cut) bytes
  HoldsFront-first log bytes some =
      subst (λ rs. HoldsFront log rs bytes) (sym records)
      (HoldsFront-more log first.more (second.more ++ second.cut) bytes (subst (λ rs. HoldsFront log rs bytes) no_cut some))

  HoldsFront-second : (log : Log) (bytes : List ℕ) → HoldsFront (with_units log (units_of first.more)) (second.more ++ second.cut) bytes
      → HoldsFront log ((first.more ++ second.more) ++ second.cut) bytes
  HoldsFront-second log bytes some =
      subst (λ rs. HoldsFront log rs bytes) (sym records) (HoldsFront-behind log first.more (second.more ++ second.cut) bytes some)

  both : (log : Log)
      → with_units (with_units log (units_of first.more)) (units_of second.more) ≡ with_units log (units_of (first.more ++ second.more))
  both log = with_units-append log (units_of first.more) (units_of second.more)
      ∙ ap (λ us. with_units log us) (sym (flat_map-append spelling first.more second.more))

  counted-both : (first.more ++ second.more ≡ (first.more ++ second.counts.0) ++ second.counts.1)
      × (c.tally ≡ counted a.tally (first.more ++ second.counts.0))
  counted-both = (
    ap (λ rs. first.more ++ rs) second.counts.2 ∙ sym (append_assoc first.more second.counts.0 second.counts.1),
    second.counts.3 ∙ ap (λ t. counted t second.counts.0) (first.tallied (kept WriteFault))
        ∙ sym (counted-append a.tally first.more second.counts.0),
  )

  stop : (fault : Option DaemonFault) → StopTells b c fault → StopTells a c fault
  stop None kept_stop = kept_stop ∙ (subst (StopTells a b) fine first.reason.stop)
  stop (Some DiskFault) told_stop = told_stop
  stop (Some WriteFault) told_stop = (told_stop.0, sym first.same.voice ∙ told_stop.1)

  reason : HasReason g h a c
  reason = record {
    stop = stop c.fault second.reason.stop;
    disk = CountsWhere-same_before _ _ _ _ (first.reason.disk.fine (kept DiskFault)) second.reason.disk;
    sink = CountsWhere-same_before _ _ _ _ (first.reason.sink.fine (kept WriteFault)) second.reason.sink;
  }

  spellable-both : AllByRecursion IsSpellable ((first.more ++ second.more) ++ second.cut)
  spellable-both = subst (AllByRecursion IsSpellable) (sym records)
      (all-append IsSpellable first.more (second.more ++ second.cut) (subst (AllByRecursion IsSpellable) no_cut first.spellable) second.spellable)

  sent-both : sent_of c.flusher ≡ sent_of a.flusher ++ units_of (first.more ++ second.more)
  sent-both = second.sent ∙ ap (λ us. us ++ units_of second.more) first.sent
      ∙ append_assoc (sent_of a.flusher) (units_of first.more) (units_of second.more)
      ∙ ap (λ us. sent_of a.flusher ++ us) (sym (flat_map-append spelling first.more second.more))

  tallied-both : c.fault ≢ Some WriteFault → c.tally ≡ counted a.tally (first.more ++ second.more)
  tallied-both written = second.tallied written ∙ ap (λ t. counted t second.more) (first.tallied (kept WriteFault))
      ∙ sym (counted-append a.tally first.more second.more)

  module _ (honest : g.honest a.flusher.disk.now) where
    still : g.honest b.flusher.disk.now
    still = first.same.flusher.honest.0 honest

    count-both : Costs g (4 * length (first.more ++ second.more) + extra c.fault) (4 * length (first.more ++ second.more) + extra c.fault)
        a.flusher.disk.now c.flusher.disk.now
    count-both =
        let extra_none = extra-fine b.fault fine in
        let long = length-append first.more second.more in
        Costs-weaken g _ _ _ _ a.flusher.disk.now c.flusher.disk.now (omega (arith, extra_none, long)) (omega (arith, extra_none, long))
        (Costs-trans g (4 * length first.more + extra b.fault) (4 * length second.more + extra c.fault)
        (4 * length first.more + extra b.fault) (4 * length second.more + extra c.fault)
        a.flusher.disk.now b.flusher.disk.now c.flusher.disk.now (first.count honest) (second.count still))

    grows-both : GrowsAtMostTo g (most_end (place_of a) (end_of (first.more ++ second.more)) (ring_of a))
        a.flusher.disk.now c.flusher.disk.now
    grows-both =
        let same_ring : ring_of b ≡ ring_of a = ap (λ (k : Constants). k.ring) first.constants in
        GrowsAtMostTo-trans g _ a.flusher.disk.now b.flusher.disk.now c.flusher.disk.now
        (GrowsAtMostTo-weaken g (most_end (place_of a) (end_of first.more) (ring_of a)) _ a.flusher.disk.now b.flusher.disk.now
        (omega (arith, ends)) (first.grows honest))
        (GrowsAtMostTo-weaken g (most_end (place_of b) (end_of second.more) (ring_of b)) _ b.flusher.disk.now c.flusher.disk.now
        (omega (arith, ends, first.tail, same_ring)) (second.grows still))

    module _ (log : Log) (stood : LogStands a.flusher.tail log (g.images a.flusher.disk.now)) where
      stood-between : LogStands b.flusher.tail (with_units log (units_of first.more)) (g.images b.flusher.disk.now)
      stood-between = first.stands (kept DiskFault) honest log stood

      moments-both : Leaves g.moment g.images_since (HoldsFront log ((first.more ++ second.more) ++ second.cut))
          a.flusher.disk.now c.flusher.disk.now
      moments-both = Leaves-trans g.moment g.images_since _ a.flusher.disk.now b.flusher.disk.now c.flusher.disk.now
          (Leaves-weaken g.moment g.images_since _ _ a.flusher.disk.now b.flusher.disk.now (HoldsFront-first log)
          (first.moments honest log stood))
          (Leaves-weaken g.moment g.images_since _ _ b.flusher.disk.now c.flusher.disk.now (HoldsFront-second log)
          (second.moments still _ stood-between))

      stands-both : c.fault ≢ Some DiskFault
          → LogStands c.flusher.tail (with_units log (units_of (first.more ++ second.more))) (g.images c.flusher.disk.now)
      stands-both sent = subst (λ l. LogStands c.flusher.tail l (g.images c.flusher.disk.now)) (both log)
          (second.stands sent still _ stood-between)

  pub Ran-trans : Ran g h a c
  Ran-trans = record {
    was_fine = first.was_fine;
    more = first.more ++ second.more;
    cut = second.cut;
    spellable = spellable-both;
    same = IsSameDaemon-trans g a b c first.same second.same;
    constants = second.constants ∙ first.constants;
    sent = sent-both;
    in_flight = second.in_flight;
    may_turn = second.may_turn;
    moments = moments-both;
    stands = λ sent honest log stood. stands-both honest log stood sent;
    tallied = tallied-both;
    counts = (first.more ++ second.counts.0, second.counts.1, counted-both.0, counted-both.1);
    part = second.part;
    reason = reason;
    count = count-both;
    tail = omega (arith, first.tail, second.tail, ends);
    grows = grows-both;
  }

pub Later-refl : {D : Type 0} {K : Type 0} (g : Ghosts D) (h : SinkGhosts K) (d : Daemon D K g h) → Later g h d d
Later-refl g h d = inl refl

pub Later-trans : {D : Type 0} {K : Type 0} (g : Ghosts D) (h : SinkGhosts K) (a b c : Daemon D K g h) → Later g h a b → Later g h b c
    → Later g h a c
Later-trans g h a b c (inl same) second = subst (λ d. Later g h d c) same second
Later-trans g h a b c (inr first) (inl same) = inr (subst (λ d. Ran g h a d) (sym same) first)
Later-trans g h a b c (inr first) (inr second) = inr (Ran-trans g h a b c first second)

-- turns leave the numbers of workers as they were
pub Later-standing : {D : Type 0} {K : Type 0} (g : Ghosts D) (h : SinkGhosts K) (a b : Daemon D K g h) → Later g h a b
    → (view_of b.flusher.seat).standing ≡ (view_of a.flusher.seat).standing
Later-standing g h a b (inl same) = ap (λ d. (view_of d.flusher.seat).standing) same
Later-standing g h a b (inr ran) = ran.same.flusher.workers

-- it is the same daemon
pub Later-same_daemon : {D : Type 0} {K : Type 0} (g : Ghosts D) (h : SinkGhosts K) (a b : Daemon D K g h) → Later g h a b → IsSameDaemon g a b
Later-same_daemon g h a b (inl same) = subst (IsSameDaemon g a) (sym same) (IsSameDaemon-refl g a)
Later-same_daemon g h a b (inr ran) = ran.same

-- its fault since it had none has its reason
pub Later-reason : {D : Type 0} {K : Type 0} (g : Ghosts D) (h : SinkGhosts K) (a b : Daemon D K g h) → Later g h a b → a.fault ≡ None
    → HasReason g h a b
Later-reason g h a b (inl same) was_fine = subst (λ d. HasReason g h a d) (sym same) (record {
  stop = subst (StopTells a a) (sym was_fine) refl;
  disk = record { counted = λ failed. absurd (none≢some DiskFault (sym was_fine ∙ failed)); fine = λ sent. refl };
  sink = record { counted = λ failed. absurd (none≢some WriteFault (sym was_fine ∙ failed)); fine = λ written. refl };
})
Later-reason g h a b (inr ran) _ = ran.reason
