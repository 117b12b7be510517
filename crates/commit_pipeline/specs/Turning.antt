-- What a turn of a daemon asks for, and what it leaves. `g` is what a disk shows and `h` what a sink shows; `old` and `new` are
-- the daemon before and after.
use Rattle.std.specs.Prelude.{◌≡◌, ℕ, ◌+◌, ◌≤◌, true, List, [], length, Option, Some, None, ⊤}
use Rattle.std.specs.Io.KnownBytes.{Appends}
use Rattle.log_disk.specs.declared.disk.LogDisk.{Ghosts}
use Rattle.log_disk.specs.declared.sink.Sink.{Ghosts as SinkGhosts}
use Rattle.log_disk.specs.Faults.{Rose}
use Rattle.log_table.specs.Seats.{view_of}
use Rattle.log_rule.specs.Views.{knows_all_enrolled, sent_to}
use Rattle.flusher.specs.declared.flusher.Drained.{Drained}
use Rattle.flusher.specs.declared.flusher.Drained.TheVariants.{At, Active, Behind}
use Rattle.flusher.specs.declared.flusher.Flusher.{Flusher}
use Rattle.flusher.specs.Flushing.{MayFlush, IsSame, FindsNothing, Sends, Loses, sent_of}
use Rattle.daemon_turn.specs.declared.one_turn.Turn.{Turn}
use Rattle.daemon_turn.specs.declared.one_turn.Turn.TheVariants.{Idle, Sent}
use Rattle.daemon_turn.specs.OneTurn.{Stops}
use Rattle.commit_pipeline.specs.declared.daemon.Daemon.{Daemon}
use Rattle.daemon_turn.specs.declared.fault.DaemonFault.{DaemonFault}
use Rattle.daemon_turn.specs.declared.fault.DaemonFault.TheVariants.{DiskFault, WriteFault}
use Rattle.daemon_turn.specs.StopWord.{stop_word}
use Rattle.end_lines.specs.Telling.{TellsAll, TellsFront}
use Rattle.commit_pipeline.specs.Told.{HasToldAll}

-- where the next units go
abbrev pub durable : {D : Type 0} → {K : Type 0} → {g : Ghosts D} → {h : SinkGhosts K} → Daemon D K g h → ℕ
durable d = sent_to (view_of d.flusher.seat)

-- its seat knows each worker made as enrolled
abbrev pub KnowsWorkers : {D : Type 0} → {K : Type 0} → {g : Ghosts D} → {h : SinkGhosts K} → Daemon D K g h → Type 0
KnowsWorkers d = knows_all_enrolled (view_of d.flusher.seat).standing ≡ true

-- the log has not come to its end: workers are active, or units are exposed beyond durable
abbrev pub GoesOn : Drained → Type 0
GoesOn (At lsn) = ⊥
GoesOn (Active n) = ⊤
GoesOn (Behind exposed durable) = ⊤

-- it has counted no more end records than units were sent
abbrev pub HasCounted : {D : Type 0} → {K : Type 0} → {g : Ghosts D} → {h : SinkGhosts K} → Daemon D K g h → Type 0
HasCounted d = d.tally.done + d.tally.refused ≤ length (sent_of d.flusher)

-- a turn may be made: a flush may be, the daemon has no fault, it has not stopped the log, it has counted no more end records
-- than units were sent, and the lines of all that was sent are written
pub record MayTurn {D : Type 0} {K : Type 0} {h : SinkGhosts K} (g : Ghosts D) (d : Daemon D K g h) : Type 0 where
  pub flusher : MayFlush g d.flusher
  pub fine : d.fault ≡ None
  pub running : (view_of d.flusher.seat).sending.stop ≡ 0
  pub counted : HasCounted d
  pub all_told : HasToldAll h d.first.value d.sink.now d.voice (view_of d.begun.value) (view_of d.flusher.seat)

-- the daemon was made just now, over a flusher that was, and nothing was sent
pub record IsMade {D : Type 0} {K : Type 0} {g : Ghosts D} {h : SinkGhosts K} (d : Daemon D K g h) : Type 0 where
  pub disk : d.flusher.first.value ≡ d.flusher.disk.now
  pub sink : d.first.value ≡ d.sink.now
  pub seat : d.begun.value ≡ d.flusher.seat
  pub unsent : sent_of d.flusher ≡ []

-- it is the same daemon, with the same disk, sink, voice and snapshots from its making
pub record IsSameDaemon {D : Type 0} {K : Type 0} {h : SinkGhosts K} (g : Ghosts D) (old new : Daemon D K g h) : Type 0 where
  pub flusher : IsSame g old.flusher new.flusher
  pub sink : new.sink.ghost_name ≡ old.sink.ghost_name
  pub voice : new.voice ≡ old.voice
  pub first : new.first.value ≡ old.first.value
  pub begun : new.begun.value ≡ old.begun.value

-- the flusher and the daemon's fault may be others, and nothing else is
abbrev pub ChangesFlusher : {D : Type 0} → {K : Type 0} → {g : Ghosts D} → {h : SinkGhosts K} → Option DaemonFault → Daemon D K g h
    → Daemon D K g h → Type 0
ChangesFlusher fault old new = (told : _) × (new ≡ record old { flusher = new.flusher; fault = fault; told = told })

-- exposed, as loaded, is durable, and nothing else was done
pub record Idles {D : Type 0} {g : Ghosts D} {K : Type 0} {h : SinkGhosts K} (old new : Daemon D K g h) : Type 0 where
  pub flush : FindsNothing old.flusher new.flusher (durable old)
  pub rest : ChangesFlusher old.fault old new

-- records were sent, and then their lines were written; no fault was counted
pub record SendsLines {D : Type 0} {K : Type 0} (g : Ghosts D) (h : SinkGhosts K) (old new : Daemon D K g h) (lines to : ℕ)
    : Type 0 where
  pub flush : Sends g old.flusher new.flusher (durable old) to
  pub text : List ℕ
  pub appended : Appends (h.held_bytes old.sink.now) (h.held_bytes new.sink.now) text
  pub tells : TellsAll old.voice (durable old) flush.records text lines old.tally new.tally
  pub fine : new.fault ≡ None
  pub disk_fine : g.faults new.flusher.disk.now ≡ g.faults old.flusher.disk.now
  pub sink_fine : h.faults new.sink.now ≡ h.faults old.sink.now

-- the disk failed to take the records, and counted that; no line was written, and the stop word tells it
pub record LosesUnits {D : Type 0} {K : Type 0} {h : SinkGhosts K} (g : Ghosts D) (old new : Daemon D K g h) : Type 0 where
  pub lost : Flusher D g
  pub flush : Loses g old.flusher lost
  pub stops : Stops (stop_word DiskFault) lost new.flusher
  pub rest : ChangesFlusher (Some DiskFault) old new
  pub rose : Rose (g.faults old.flusher.disk.now) (g.faults new.flusher.disk.now)

-- the records were sent, and then the sink failed to take the lines, and counted that; the stop word tells it
pub record LosesLines {D : Type 0} {K : Type 0} (g : Ghosts D) (h : SinkGhosts K) (old new : Daemon D K g h) : Type 0 where
  pub to : ℕ
  pub sent : Flusher D g
  pub flush : Sends g old.flusher sent (durable old) to
  pub stops : Stops (stop_word WriteFault) sent new.flusher
  pub text : List ℕ
  pub appended : Appends (h.held_bytes old.sink.now) (h.held_bytes new.sink.now) text
  pub tells : TellsFront old.voice (durable old) flush.records text old.tally new.tally
  pub fault : new.fault ≡ Some WriteFault
  pub rose : Rose (h.faults old.sink.now) (h.faults new.sink.now)
  pub disk_fine : g.faults new.flusher.disk.now ≡ g.faults old.flusher.disk.now

-- a turn, by its answer
abbrev pub Turns : {D : Type 0} → {K : Type 0} → (g : Ghosts D) → (h : SinkGhosts K) → Daemon D K g h → Daemon D K g h → Turn → Type 0
Turns g h old new Idle = Idles old new
Turns g h old new (Sent lines to) = SendsLines g h old new lines to

-- a turn that failed, by the fault
abbrev pub Fails : {D : Type 0} → {K : Type 0} → (g : Ghosts D) → (h : SinkGhosts K) → Daemon D K g h → Daemon D K g h → DaemonFault
    → Type 0
Fails g h old new DiskFault = LosesUnits g old new
Fails g h old new WriteFault = LosesLines g h old new
