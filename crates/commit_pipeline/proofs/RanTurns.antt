-- One turn, and one question whether the log is drained, as what turns leave.
use Rattle.std.proofs.Common.{◌≡◌, ◌≢◌, ◌∙◌, sym, ap, refl, subst, ℕ, ◌+◌, ◌*◌, ◌≤◌, ◌<◌, List, [], ◌∷◌, ◌++◌, length, append-nil, arith, Some, None}
use Rattle.log_disk.proofs.Counting.{Costs-weaken}
use Rattle.log_disk.specs.declared.disk.LogDisk.{Ghosts}
use Rattle.log_disk.specs.declared.sink.Sink.{Ghosts as SinkGhosts}
use Rattle.std.specs.List.{AllByRecursion}
use Rattle.log_record.specs.declared.rec.Rec.{Rec}
use Rattle.log_record.specs.Spelling.{IsSpellable}
use Rattle.log_rule.specs.declared.view.View.{View}
use Rattle.log_table.specs.declared.table.Seat.{Seat}
use Rattle.log_table.specs.Seats.{Becomes, view_of}
use Rattle.flusher.specs.declared.flusher.Drained.{Drained}
use Rattle.flusher.specs.declared.flusher.Drained.TheVariants.{At, Active, Behind}
use Rattle.flusher.specs.declared.flusher.Flusher.{Flusher}
use Rattle.flusher.specs.Flushing.{Asks, ChangesSeat, IsSameSeat, sent_of}
use Rattle.log_record.specs.LogList.{AreUnitsOf}
use Rattle.flusher.proofs.Flushes.{IsSameSeat-becomes}
use Rattle.daemon_turn.proofs.SameLemmas.{IsSame-changes_seat}
use Rattle.commit_pipeline.specs.declared.daemon.Daemon.{Daemon}
use Rattle.daemon_turn.specs.declared.one_turn.Turn.{Turn}
use Rattle.daemon_turn.specs.declared.one_turn.Turn.TheVariants.{Idle, Sent}
use Rattle.daemon_turn.specs.declared.fault.DaemonFault.{DaemonFault}
use Rattle.daemon_turn.specs.declared.fault.DaemonFault.TheVariants.{DiskFault, WriteFault}
use Rattle.commit_pipeline.specs.Told.{HasToldPart}
use Rattle.commit_pipeline.specs.Later.{InFlight, HasReason, StopTells, extra, Ran}
use Rattle.end_lines.specs.declared.voice.Voice.{Voice}
use Rattle.end_lines.specs.Telling.{counted}
use Rattle.commit_pipeline.specs.Turning.{ChangesFlusher, MayTurn, IsSameDaemon, Idles, SendsLines, LosesUnits, LosesLines, Turns, Fails, durable}
use Rattle.commit_pipeline.proofs.FlewLemmas.{Flew, Flew-changes_seat, Flew-sends, Flew-loses, Flew-stop}
use Rattle.commit_pipeline.proofs.RanLemmas.{none≢some, TellsFront-proper_front, TellsFront-voice_lines}
use Rattle.commit_pipeline.proofs.ToldSoFar.{HasToldPart-more}
use Rattle.daemon_turn.proofs.ToldLemmas.{counted-none}

module _ {D : Type 0} {K : Type 0} (g : Ghosts D) (h : SinkGhosts K) (old new : Daemon D K g h) where
  Ran-of : (more cut : List Rec) (most : ℕ) → old.fault ≡ None → AllByRecursion IsSpellable (more ++ cut)
      → Flew g more cut most old.flusher new.flusher
      → IsSameDaemon g old new → InFlight new.fault (view_of new.flusher.seat) cut → (new.fault ≡ None → MayTurn g new)
      → (new.fault ≢ Some DiskFault → cut ≡ []) → (new.fault ≢ Some WriteFault → new.tally ≡ counted old.tally more)
      → (told untold : List Rec) × (more ≡ told ++ untold) × (new.tally ≡ counted old.tally told)
      → (new.fault ≡ Some WriteFault
      → HasToldPart h new.first.value new.sink.now new.voice (view_of new.begun.value) (view_of new.flusher.seat))
      → HasReason g h old new → most ≤ 4 * length more + extra new.fault → Ran g h old new
  Ran-of more cut most fine spellable flew same in_flight may_turn cuts tallied counts part reason count = record {
    was_fine = fine;
    more = more;
    cut = cut;
    spellable = spellable;
    same = same;
    constants = flew.constants;
    sent = flew.sent;
    in_flight = in_flight;
    may_turn = may_turn;
    moments = flew.wrote.moments;
    stands = λ sent. flew.wrote.stands (cuts sent);
    tallied = tallied;
    counts = counts;
    part = part;
    reason = reason;
    count = λ honest. Costs-weaken g most _ most _ old.flusher.disk.now new.flusher.disk.now count count (flew.wrote.count honest);
    tail = flew.wrote.tail;
    grows = flew.wrote.grows;
  }

  -- and no fault was counted
  fine-reason : new.fault ≡ None → (view_of new.flusher.seat).sending.stop ≡ (view_of old.flusher.seat).sending.stop
      → g.faults new.flusher.disk.now ≡ g.faults old.flusher.disk.now → h.faults new.sink.now ≡ h.faults old.sink.now
      → HasReason g h old new
  fine-reason fine stop disk_fine sink_fine = record {
    stop = subst (StopTells old new) (sym fine) stop;
    disk = record { counted = λ failed. absurd (none≢some DiskFault (sym fine ∙ failed)); fine = λ sent. disk_fine };
    sink = record { counted = λ failed. absurd (none≢some WriteFault (sym fine ∙ failed)); fine = λ written. sink_fine };
  }

  fine-flight : new.fault ≡ None → (view_of new.flusher.seat).sending.read ≡ [] → InFlight new.fault (view_of new.flusher.seat) []
  fine-flight fine read = subst (λ f. InFlight f (view_of new.flusher.seat) []) (sym fine) (refl, read)

  -- the seat made steps, and nothing was sent
  Ran-quiet : MayTurn g old → Flew g [] [] 0 old.flusher new.flusher → IsSameDaemon g old new → MayTurn g new
      → ChangesFlusher old.fault old new
      → (view_of new.flusher.seat).sending.stop ≡ (view_of old.flusher.seat).sending.stop
      → g.faults new.flusher.disk.now ≡ g.faults old.flusher.disk.now → Ran g h old new
  Ran-quiet ready flew same may rest stop disk_fine =
      Ran-of [] [] 0 ready.fine tt flew same (fine-flight may.fine flew.read) (λ fine. may) (λ sent. refl)
      (λ written. ap (λ (d : Daemon D K g h). d.tally) rest.1 ∙ counted-none old.tally)
      ([], [], refl, ap (λ (d : Daemon D K g h). d.tally) rest.1 ∙ counted-none old.tally)
      (λ failed. absurd (none≢some WriteFault (sym may.fine ∙ failed)))
      (fine-reason may.fine stop disk_fine (ap (λ (d : Daemon D K g h). h.faults d.sink.now) rest.1)) (omega (arith, ap extra may.fine))

  -- what some units spell is some record
  some-records : (units : List ℕ) (records : List Rec) → AreUnitsOf units records → 0 < length units → 1 ≤ length records
  some-records units [] spelled some = absurd (omega (arith, some, ap length spelled.units_are))
  some-records units (record_ ∷ records) spelled some = omega arith

  Ran-sent : (lines to : ℕ) → MayTurn g old → SendsLines g h old new lines to → IsSameDaemon g old new → MayTurn g new → Ran g h old new
  Ran-sent lines to ready sent same may =
      let is = ap (λ m. m.0) sent.flush.seat.me in
      let flew = Flew-sends g old.flusher new.flusher (durable old) to ready.flusher sent.flush in
      let some = some-records sent.flush.units sent.flush.records sent.flush.spelled (omega (arith, sent.flush.some, sent.flush.whole)) in
      Ran-of sent.flush.records [] 4 ready.fine
      (subst (AllByRecursion IsSpellable) (sym (append-nil sent.flush.records)) sent.flush.spelled.spellable) flew same
      (fine-flight may.fine flew.read) (λ fine. may) (λ disk. refl) (λ written. sent.tells.counts)
      (sent.flush.records, [], sym (append-nil sent.flush.records), sent.tells.counts)
      (λ failed. absurd (none≢some WriteFault (sym may.fine ∙ failed)))
      (fine-reason may.fine (ap (λ (v : View). v.sending.stop) is) sent.disk_fine sent.sink_fine)
      (omega (arith, some, ap extra may.fine))

  -- the disk failed
  lost-reason : LosesUnits g old new → new.fault ≡ Some DiskFault → HasReason g h old new
  lost-reason lost fault = record {
    stop = subst (StopTells old new) (sym fault) (ap (λ m. m.0.sending.stop) lost.stops.seat.me);
    disk = record { counted = λ failed. lost.rose; fine = λ sent. absurd (sent fault) };
    sink = record { counted = λ failed. absurd cc; fine = λ written. ap (λ (d : Daemon D K g h). h.faults d.sink.now) lost.rest.1 };
  }

  tally-lost : LosesUnits g old new → new.tally ≡ counted old.tally []
  tally-lost lost = ap (λ (d : Daemon D K g h). d.tally) lost.rest.1 ∙ counted-none old.tally

  Ran-lost : MayTurn g old → LosesUnits g old new → IsSameDaemon g old new → Ran g h old new
  Ran-lost ready lost same =
      let fault : new.fault ≡ Some DiskFault = ap (λ (d : Daemon D K g h). d.fault) lost.rest.1 in
      let flew = Flew-stop g [] lost.flush.records 4 1 old.flusher lost.lost new.flusher
      (Flew-loses g old.flusher lost.lost ready.flusher lost.flush) lost.stops in
      Ran-of [] lost.flush.records 4 ready.fine lost.flush.spelled.spellable flew same
      (subst (λ f. InFlight f (view_of new.flusher.seat) lost.flush.records) (sym fault) flew.read)
      (λ fine. absurd (none≢some DiskFault (sym fine ∙ fault))) (λ sent. absurd (sent fault)) (λ written. tally-lost lost)
      ([], [], refl, tally-lost lost) (λ failed. absurd cc) (lost-reason lost fault) (omega (arith, ap extra fault))

  -- a part of the lines was written, of a daemon that had told all it sent before
  told-unwritten : MayTurn g old → LosesLines g h old new → IsSameDaemon g old new
      → HasToldPart h new.first.value new.sink.now new.voice (view_of new.begun.value) (view_of new.flusher.seat)
  told-unwritten ready lost same =
      let stopped = ap (λ m. m.0) lost.stops.seat.me in
      let flushed = ap (λ m. m.0) lost.flush.seat.me in
      let (rest, some, lines) = TellsFront-proper_front old.voice (durable old) lost.flush.records lost.text old.tally new.tally lost.tells in
      subst (λ (p : K × Voice × Seat). HasToldPart h p.0 new.sink.now p.1 (view_of p.2) (view_of new.flusher.seat))
      (λ i. (sym same.first i, sym same.voice i, sym same.begun i))
      (HasToldPart-more h old.first.value old.voice (view_of old.begun.value) old.sink.now (view_of old.flusher.seat)
      (view_of new.flusher.seat) (ap (λ (v : View). v.constants) stopped ∙ ap (λ (v : View). v.constants) flushed)
      ready.all_told lost.flush.units lost.flush.records lost.flush.spelled
      (ap (λ (v : View). v.sending.sent) stopped ∙ ap (λ (v : View). v.sending.sent) flushed
      ∙ ap (λ us. sent_of old.flusher ++ (us ++ lost.flush.units)) ready.flusher.unread)
      new.sink.now lost.text lost.appended rest some lines)

  -- the sink failed
  unwritten-reason : LosesLines g h old new → HasReason g h old new
  unwritten-reason lost = record {
    stop = subst (StopTells old new) (sym lost.fault) (
      ap (λ m. m.0.sending.stop) lost.stops.seat.me,
      TellsFront-voice_lines old.voice (durable old) lost.flush.records lost.text old.tally new.tally lost.tells,
    );
    disk = record { counted = λ failed. absurd cc; fine = λ sent. lost.disk_fine };
    sink = record { counted = λ failed. lost.rose; fine = λ written. absurd (written lost.fault) };
  }

  Ran-unwritten : MayTurn g old → LosesLines g h old new → IsSameDaemon g old new → Ran g h old new
  Ran-unwritten ready lost same =
      let flew = Flew-stop g lost.flush.records [] 4 2 old.flusher lost.sent new.flusher
      (Flew-sends g old.flusher lost.sent (durable old) lost.to ready.flusher lost.flush) lost.stops in
      let some = some-records lost.flush.units lost.flush.records lost.flush.spelled (omega (arith, lost.flush.some, lost.flush.whole)) in
      Ran-of lost.flush.records [] 4 ready.fine
      (subst (AllByRecursion IsSpellable) (sym (append-nil lost.flush.records)) lost.flush.spelled.spellable) flew same
      (subst (λ f. InFlight f (view_of new.flusher.seat) []) (sym lost.fault) (refl, flew.read))
      (λ fine. absurd (none≢some WriteFault (sym fine ∙ lost.fault))) (λ sent. refl) (λ written. absurd (written lost.fault))
      (lost.tells.told, lost.tells.untold, lost.tells.whole, lost.tells.counts) (λ failed. told-unwritten ready lost same)
      (unwritten-reason lost) (omega (arith, some, ap extra lost.fault))

  module _ (rest : ChangesFlusher old.fault old new) (seat_alone : ChangesSeat old.flusher new.flusher) where
    -- where the seat alone made steps, it is the same daemon
    IsSameDaemon-step : IsSameSeat old.flusher.seat new.flusher.seat
        → (view_of new.flusher.seat).standing ≡ (view_of old.flusher.seat).standing → IsSameDaemon g old new
    IsSameDaemon-step seat workers = record {
      flusher = IsSame-changes_seat g old.flusher new.flusher seat_alone seat workers;
      sink = ap (λ (d : Daemon D K g h). d.sink.ghost_name) rest.1;
      voice = ap (λ (d : Daemon D K g h). d.voice) rest.1;
      first = ap (λ (d : Daemon D K g h). d.first.value) rest.1;
      begun = ap (λ (d : Daemon D K g h). d.begun.value) rest.1;
    }

    -- the view after steps that change nothing but what was seen
    Ran-steps : (view : View) → Becomes old.flusher.seat new.flusher.seat view → MayTurn g old → MayTurn g new
        → view.constants ≡ (view_of old.flusher.seat).constants → view.entries ≡ (view_of old.flusher.seat).entries
        → view.books ≡ (view_of old.flusher.seat).books → view.standing ≡ (view_of old.flusher.seat).standing
        → view.sending.sent ≡ sent_of old.flusher
        → view.sending.read ≡ (view_of old.flusher.seat).sending.read → view.sending.stop ≡ (view_of old.flusher.seat).sending.stop
        → Ran g h old new
    Ran-steps view becomes ready may constants entries books standing sent read stop =
        let is = ap (λ m. m.0) becomes.me in
        Ran-quiet ready
        (Flew-changes_seat g old.flusher new.flusher seat_alone (ap (λ (v : View). v.constants) is ∙ constants)
        (ap (λ (v : View). v.sending.sent) is ∙ sent)
        (ap (λ (v : View). v.sending.read) is ∙ read ∙ ready.flusher.unread))
        (IsSameDaemon-step (IsSameSeat-becomes _ _ view becomes constants entries books) (ap (λ (v : View). v.standing) is ∙ standing))
        may rest (ap (λ (v : View). v.sending.stop) is ∙ stop)
        (ap (λ (f : Flusher D g). g.faults f.disk.now) seat_alone.1)

    pub Ran-asked : (answer : Drained) → Asks old.flusher new.flusher answer → MayTurn g old → MayTurn g new → Ran g h old new
    Ran-asked (At lsn) asks ready may = Ran-steps _ asks.2 ready may refl refl refl refl refl refl refl
    Ran-asked (Active n) asks ready may = Ran-steps _ asks.1 ready may refl refl refl refl refl refl refl
    Ran-asked (Behind exposed durable) asks ready may = Ran-steps _ asks.2 ready may refl refl refl refl refl refl refl

  Ran-idle : Idles old new → MayTurn g old → MayTurn g new → Ran g h old new
  Ran-idle idles ready may = Ran-steps idles.rest idles.flush.rest _ idles.flush.seat ready may refl refl refl refl refl refl refl

  pub Ran-turned : (turn : Turn) → Turns g h old new turn → MayTurn g old → IsSameDaemon g old new → MayTurn g new → Ran g h old new
  Ran-turned Idle idles ready same may = Ran-idle idles ready may
  Ran-turned (Sent lines to) sent ready same may = Ran-sent lines to ready sent same may

  pub Ran-failed : (fault : DaemonFault) → Fails g h old new fault → MayTurn g old → IsSameDaemon g old new → Ran g h old new
  Ran-failed DiskFault lost ready same = Ran-lost ready lost same
  Ran-failed WriteFault lost ready same = Ran-unwritten ready lost same
