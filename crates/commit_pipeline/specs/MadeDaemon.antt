-- What a daemon is made of.
use Rattle.std.specs.Prelude.{◌≡◌, None}
use Rattle.std.specs.Borrow.{MutBor}
use Rattle.log_disk.specs.declared.disk.LogDisk.{Ghosts}
use Rattle.log_disk.specs.declared.sink.Sink.{Ghosts as SinkGhosts}
use Rattle.log_table.specs.Seats.{view_of}
use Rattle.end_lines.specs.declared.voice.Voice.{Voice}
use Rattle.flusher.specs.declared.flusher.Flusher.{Flusher}
use Rattle.commit_pipeline.specs.declared.daemon.Daemon.{Daemon}
use Rattle.commit_pipeline.specs.Told.{HasToldAll}

-- It has these parts, and the sink was so when it was made. It has no fault, and has counted and written nothing.
pub record IsDaemonOf {D K : Type 0} {g : Ghosts D} (h : SinkGhosts K) (own : Flusher D g) (lent : MutBor K) (speaks : Voice) (before : K)
    (made : Daemon D K g h) : Type 0 where
  pub flusher : made.flusher ≡ own
  pub sink : made.sink ≡ lent
  pub voice : made.voice ≡ speaks
  pub done : made.tally.done ≡ 0
  pub refused : made.tally.refused ≡ 0
  pub fine : made.fault ≡ None
  pub first : made.first.value ≡ before
  pub begun : made.begun.value ≡ own.seat
  pub told : HasToldAll h made.first.value made.sink.now made.voice (view_of made.begun.value) (view_of made.flusher.seat)
