-- What any number of turns leave, of which at most the last failed. The relation is reflexive and transitive.
use Rattle.std.specs.Prelude.{◌≡◌, ◌≢◌, ◌≤◌, ◌⊎◌, ℕ, ◌+◌, ◌*◌, List, [], ◌++◌, length, Option, Some, None}
use Rattle.std.specs.List.{AllByRecursion}
use Rattle.log_disk.specs.Costs.{Costs}
use Rattle.log_disk.specs.Disk.{Leaves}
use Rattle.log_disk.specs.Lengths.{GrowsAtMostTo}
use Rattle.log_disk.specs.declared.disk.LogDisk.{Ghosts}
use Rattle.log_disk.specs.declared.sink.Sink.{Ghosts as SinkGhosts}
use Rattle.log_disk.specs.Faults.{CountsWhere}
use Rattle.log_record.specs.declared.rec.Rec.{Rec}
use Rattle.log_record.specs.LogList.{units_of, end_of}
use Rattle.log_record.specs.Spelling.{IsSpellable}
use Rattle.log_rule.specs.declared.view.View.{View}
use Rattle.log_table.specs.Seats.{view_of}
use Rattle.segment_file.specs.Log.{Log, with_units}
use Rattle.segment_file.specs.Lengths.{most_end}
use Rattle.segment_file.specs.StandingLog.{LogStands}
use Rattle.flusher.specs.KeptLog.{HoldsFront}
use Rattle.flusher.specs.Flushing.{sent_of}
use Rattle.commit_pipeline.specs.declared.daemon.Daemon.{Daemon}
use Rattle.daemon_turn.specs.declared.fault.DaemonFault.{DaemonFault}
use Rattle.daemon_turn.specs.declared.fault.DaemonFault.TheVariants.{DiskFault, WriteFault}
use Rattle.end_lines.specs.declared.voice.Voice.TheVariants.{Lines}
use Rattle.daemon_turn.specs.StopWord.{stop_word}
use Rattle.end_lines.specs.Telling.{counted}
use Rattle.commit_pipeline.specs.Told.{HasToldPart}
use Rattle.commit_pipeline.specs.Turning.{MayTurn, IsSameDaemon}

-- the records in flight: those that were read when the disk failed, and else none
abbrev pub InFlight : Option DaemonFault → View → List Rec → Type 0
InFlight None view cut = (cut ≡ []) × (view.sending.read ≡ [])
InFlight (Some DiskFault) view cut = view.sending.read ≡ units_of cut
InFlight (Some WriteFault) view cut = (cut ≡ []) × (view.sending.read ≡ [])

-- the stop word tells the fault; without one it is as before. To a daemon that only counts the sink does not fail.
abbrev pub StopTells : {D : Type 0} → {K : Type 0} → {g : Ghosts D} → {h : SinkGhosts K} → Daemon D K g h → Daemon D K g h
    → Option DaemonFault → Type 0
StopTells old new None = (view_of new.flusher.seat).sending.stop ≡ (view_of old.flusher.seat).sending.stop
StopTells old new (Some DiskFault) = (view_of new.flusher.seat).sending.stop ≡ stop_word DiskFault
StopTells old new (Some WriteFault) = ((view_of new.flusher.seat).sending.stop ≡ stop_word WriteFault) × (old.voice ≡ Lines)

-- The daemon's fault has its reason: the stop word tells it, and the object that it names counted one fault. No other fault was
-- counted.
pub record HasReason {D : Type 0} {K : Type 0} (g : Ghosts D) (h : SinkGhosts K) (old new : Daemon D K g h) : Type 0 where
  pub stop : StopTells old new new.fault
  pub disk : CountsWhere (new.fault ≡ Some DiskFault) (g.faults old.flusher.disk.now) (g.faults new.flusher.disk.now)
  pub sink : CountsWhere (new.fault ≡ Some WriteFault) (h.faults old.sink.now) (h.faults new.sink.now)

-- how many calls a flush that failed may have made of the disk
abbrev pub extra : Option DaemonFault → ℕ
extra None = 0
extra (Some DiskFault) = 4
extra (Some WriteFault) = 0

-- where the log goes on in its file, and the length of the ring from which its units come
abbrev pub place_of : {D : Type 0} → {K : Type 0} → {g : Ghosts D} → {h : SinkGhosts K} → Daemon D K g h → ℕ
place_of d = d.flusher.tail.at

abbrev pub ring_of : {D : Type 0} → {K : Type 0} → {g : Ghosts D} → {h : SinkGhosts K} → Daemon D K g h → ℕ
ring_of d = (view_of d.flusher.seat).constants.ring

-- Turns of a daemon that had no fault. `more` are the records that they sent, and `cut` those in flight at a fault of the
-- disk. At each moment an image holds the log that stood at the tail and a prefix of them. At a fault of the sink the end records of a
-- prefix of them were counted, and a part of the lines is written, not all. No call that failed was made again. The tail moved, and the
-- file grew, by at most 13 bytes for each unit sent, and the file by one batch in flight more.
pub record Ran {D : Type 0} {K : Type 0} (g : Ghosts D) (h : SinkGhosts K) (old new : Daemon D K g h) : Type 0 where
  pub was_fine : old.fault ≡ None
  pub more : List Rec
  pub cut : List Rec
  pub spellable : AllByRecursion IsSpellable (more ++ cut)
  pub same : IsSameDaemon g old new
  pub constants : (view_of new.flusher.seat).constants ≡ (view_of old.flusher.seat).constants
  pub sent : sent_of new.flusher ≡ sent_of old.flusher ++ units_of more
  pub in_flight : InFlight new.fault (view_of new.flusher.seat) cut
  pub may_turn : new.fault ≡ None → MayTurn g new
  pub moments : g.honest old.flusher.disk.now → (log : Log) → LogStands old.flusher.tail log (g.images old.flusher.disk.now)
      → Leaves g.moment g.images_since (HoldsFront log (more ++ cut)) old.flusher.disk.now new.flusher.disk.now
  pub stands : new.fault ≢ Some DiskFault → g.honest old.flusher.disk.now → (log : Log)
      → LogStands old.flusher.tail log (g.images old.flusher.disk.now)
      → LogStands new.flusher.tail (with_units log (units_of more)) (g.images new.flusher.disk.now)
  pub tallied : new.fault ≢ Some WriteFault → new.tally ≡ counted old.tally more
  pub counts : (told untold : List Rec) × (more ≡ told ++ untold) × (new.tally ≡ counted old.tally told)
  pub part : new.fault ≡ Some WriteFault
      → HasToldPart h new.first.value new.sink.now new.voice (view_of new.begun.value) (view_of new.flusher.seat)
  pub reason : HasReason g h old new
  pub count : g.honest old.flusher.disk.now
      → Costs g (4 * length more + extra new.fault) (4 * length more + extra new.fault) old.flusher.disk.now new.flusher.disk.now
  pub tail : place_of new ≤ place_of old + 13 * end_of more
  pub grows : g.honest old.flusher.disk.now
      → GrowsAtMostTo g (most_end (place_of old) (end_of more) (ring_of old)) old.flusher.disk.now new.flusher.disk.now

-- nothing happened, or turns did
abbrev pub Later : {D : Type 0} → {K : Type 0} → (g : Ghosts D) → (h : SinkGhosts K) → Daemon D K g h → Daemon D K g h → Type 0
Later g h old new = (new ≡ old) ⊎ Ran g h old new
