-- What one flush, and then the lines of what it sent, ask for and leave. `g` is what a disk shows and `h` what a sink shows; `old` and
-- `new` are the flusher before and after, `sink` and `tally` the sink and the counts before, `sink'` and `tally'` after.
use Rattle.std.specs.Prelude.{◌≡◌, ℕ, ◌+◌, ◌≤◌, List, length}
use Rattle.std.specs.Io.KnownBytes.{Appends}
use Rattle.log_disk.specs.declared.disk.LogDisk.{Ghosts}
use Rattle.log_disk.specs.declared.sink.Sink.{Ghosts as SinkGhosts}
use Rattle.log_disk.specs.Faults.{Rose}
use Rattle.log_table.specs.Seats.{Becomes, view_of}
use Rattle.log_rule.specs.Views.{sent_to, has_stopped}
use Rattle.end_lines.specs.declared.tally.Tally.{Tally}
use Rattle.end_lines.specs.declared.voice.Voice.{Voice}
use Rattle.end_lines.specs.Telling.{TellsAll, TellsFront}
use Rattle.daemon_turn.specs.declared.fault.DaemonFault.{DaemonFault}
use Rattle.daemon_turn.specs.declared.fault.DaemonFault.TheVariants.{DiskFault, WriteFault}
use Rattle.daemon_turn.specs.StopWord.{stop_word}
use Rattle.flusher.specs.declared.flusher.Flusher.{Flusher}
use Rattle.flusher.specs.Flushing.{ChangesSeat, MayFlush, FindsNothing, Sends, Loses, sent_of}
use Rattle.daemon_turn.specs.declared.one_turn.Turn.{Turn}
use Rattle.daemon_turn.specs.declared.one_turn.Turn.TheVariants.{Idle, Sent}

-- a flush may be made, the log was not stopped, and no more end records were counted than units sent
pub record MayGoOn {D : Type 0} (g : Ghosts D) (f : Flusher D g) (tally : Tally) : Type 0 where
  pub flusher : MayFlush g f
  pub running : (view_of f.seat).sending.stop ≡ 0
  pub counted : tally.done + tally.refused ≤ length (sent_of f)

-- the stop word was stored, and nothing else was done
pub record Stops {D : Type 0} {g : Ghosts D} (word : ℕ) (old new : Flusher D g) : Type 0 where
  pub seat : Becomes old.seat new.seat (has_stopped word (view_of old.seat))
  pub rest : ChangesSeat old new

module _ {D : Type 0} {K : Type 0} (g : Ghosts D) (h : SinkGhosts K) (voice : Voice) (old new : Flusher D g) (sink sink' : K)
    (tally tally' : Tally) where
  -- exposed, as loaded, is durable, and nothing else was done
  pub record FindsAll : Type 0 where
    pub flush : FindsNothing old new (sent_to (view_of old.seat))
    pub sink_is : sink' ≡ sink
    pub tally_is : tally' ≡ tally

  -- records were sent, and then their lines were written; no fault was counted
  pub record SendsAndTells (lines to : ℕ) : Type 0 where
    pub flush : Sends g old new (sent_to (view_of old.seat)) to
    pub text : List ℕ
    pub appended : Appends (h.held_bytes sink) (h.held_bytes sink') text
    pub tells : TellsAll voice (sent_to (view_of old.seat)) flush.records text lines tally tally'
    pub disk_fine : g.faults new.disk.now ≡ g.faults old.disk.now
    pub sink_fine : h.faults sink' ≡ h.faults sink

  -- the disk failed to take the records, and counted that; no line was written, and the stop word tells it
  pub record CannotSend : Type 0 where
    pub lost : Flusher D g
    pub flush : Loses g old lost
    pub stops : Stops (stop_word DiskFault) lost new
    pub sink_is : sink' ≡ sink
    pub tally_is : tally' ≡ tally
    pub rose : Rose (g.faults old.disk.now) (g.faults new.disk.now)

  -- the records were sent, and then the sink failed to take the lines, and counted that; the stop word tells it
  pub record CannotTell : Type 0 where
    pub to : ℕ
    pub sent : Flusher D g
    pub flush : Sends g old sent (sent_to (view_of old.seat)) to
    pub stops : Stops (stop_word WriteFault) sent new
    pub text : List ℕ
    pub appended : Appends (h.held_bytes sink) (h.held_bytes sink') text
    pub tells : TellsFront voice (sent_to (view_of old.seat)) flush.records text tally tally'
    pub rose : Rose (h.faults sink) (h.faults sink')
    pub disk_fine : g.faults new.disk.now ≡ g.faults old.disk.now

  -- a turn, by its answer
  abbrev pub Made : Turn → Type 0
  Made Idle = FindsAll
  Made (Sent lines to) = SendsAndTells lines to

  -- a turn that failed, by the fault
  abbrev pub Failed : DaemonFault → Type 0
  Failed DiskFault = CannotSend
  Failed WriteFault = CannotTell
