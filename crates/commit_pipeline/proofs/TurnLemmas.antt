-- What a turn's parts come to, said of the daemon.
use Rattle.std.proofs.Common.{◌≡◌, refl, subst, Option, Some, None}
use mathlib.Core.Logic.{∥∥₁_prop}
use mathlib.Core.HLevel.{is_prop→PathP}
use Rattle.log_disk.specs.declared.disk.LogDisk.{Ghosts}
use Rattle.log_disk.specs.declared.sink.Sink.{Ghosts as SinkGhosts}
use Rattle.log_table.specs.Seats.{view_of}
use Rattle.end_lines.specs.declared.tally.Tally.{Tally}
use Rattle.daemon_turn.specs.declared.fault.DaemonFault.{DaemonFault}
use Rattle.daemon_turn.specs.declared.fault.DaemonFault.TheVariants.{DiskFault, WriteFault}
use Rattle.flusher.specs.Flushing.{IsSame}
use Rattle.flusher.specs.declared.flusher.Flusher.{Flusher}
use Rattle.daemon_turn.specs.declared.one_turn.Turn.{Turn}
use Rattle.daemon_turn.specs.declared.one_turn.Turn.TheVariants.{Idle, Sent}
use Rattle.daemon_turn.specs.OneTurn.{CannotSend, CannotTell, MayGoOn, Made, Failed}
use Rattle.commit_pipeline.specs.declared.daemon.Daemon.{Daemon}
use Rattle.commit_pipeline.specs.Told.{HasTold, HasToldAll}
use Rattle.commit_pipeline.specs.Turning.{ChangesFlusher, LosesLines, LosesUnits, MayTurn, IsSameDaemon, Turns, Fails}

pub MayTurn-may_go_on : {D : Type 0} {K : Type 0} {h : SinkGhosts K} (g : Ghosts D) (d : Daemon D K g h) → MayTurn g d
    → MayGoOn g d.flusher d.tally
MayTurn-may_go_on g d ready = record { flusher = ready.flusher; running = ready.running; counted = ready.counted }

module _ {D : Type 0} {K : Type 0} (g : Ghosts D) (h : SinkGhosts K) (old : Daemon D K g h) (f : Flusher D g) (sink : K) (tally : Tally)
    (told : ∥ HasTold h old.first.value sink old.voice (view_of old.begun.value) (view_of f.seat) ∥₁) where
  -- the daemon with these parts, and this fault
  abbrev pub next : Option DaemonFault → Daemon D K g h
  next fault = record old { flusher = f; sink = record old.sink { now = sink }; tally = tally; fault = fault; told = told }

  -- where sink and tally are as they were
  next-rest : (fault : Option DaemonFault) → sink ≡ old.sink.now → tally ≡ old.tally → ChangesFlusher fault old (next fault)
  next-rest fault sink_is tally_is =
      let before = subst (λ s. ∥ HasTold h old.first.value s old.voice (view_of old.begun.value) (view_of f.seat) ∥₁) sink_is told in (
        before,
        λ i.
            record old {
              flusher = f;
              sink = record old.sink { now = sink_is i };
              tally = tally_is i;
              fault = fault;
              told = is_prop→PathP (λ j. ∥ HasTold h old.first.value (sink_is j) old.voice (view_of old.begun.value) (view_of f.seat) ∥₁)
                  (λ j. ∥∥₁_prop) told before i;
            },
      )

  pub Turns-made : (turn : Turn) → Made g h old.voice old.flusher f old.sink.now sink old.tally tally turn → old.fault ≡ None
      → Turns g h old (next old.fault) turn
  Turns-made Idle all fine = record { flush = all.flush; rest = next-rest old.fault all.sink_is all.tally_is }
  Turns-made (Sent lines to) sent fine = record {
    flush = sent.flush;
    text = sent.text;
    appended = sent.appended;
    tells = sent.tells;
    fine = fine;
    disk_fine = sent.disk_fine;
    sink_fine = sent.sink_fine;
  }

  LosesUnits-made : CannotSend g h old.voice old.flusher f old.sink.now sink old.tally tally
      → LosesUnits g old (next (Some DiskFault))
  LosesUnits-made lost = record {
    lost = lost.lost;
    flush = lost.flush;
    stops = lost.stops;
    rest = next-rest (Some DiskFault) lost.sink_is lost.tally_is;
    rose = lost.rose;
  }

  LosesLines-made : CannotTell g h old.voice old.flusher f old.sink.now sink old.tally tally
      → LosesLines g h old (next (Some WriteFault))
  LosesLines-made lost = record {
    to = lost.to;
    sent = lost.sent;
    flush = lost.flush;
    stops = lost.stops;
    text = lost.text;
    appended = lost.appended;
    tells = lost.tells;
    fault = refl;
    rose = lost.rose;
    disk_fine = lost.disk_fine;
  }

  pub Fails-made : (fault : DaemonFault) → Failed g h old.voice old.flusher f old.sink.now sink old.tally tally fault
      → Fails g h old (next (Some fault)) fault
  Fails-made DiskFault lost = LosesUnits-made lost
  Fails-made WriteFault lost = LosesLines-made lost

  pub MayTurn-made : MayGoOn g f tally → old.fault ≡ None
      → HasToldAll h old.first.value sink old.voice (view_of old.begun.value) (view_of f.seat) → MayTurn g (next old.fault)
  MayTurn-made may fine all = record { flusher = may.flusher; fine = fine; running = may.running; counted = may.counted; all_told = all }

  pub IsSameDaemon-made : (fault : Option DaemonFault) → IsSame g old.flusher f → IsSameDaemon g old (next fault)
  IsSameDaemon-made fault same = record { flusher = same; sink = refl; voice = refl; first = refl; begun = refl }
