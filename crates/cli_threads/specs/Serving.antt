-- All workers of a run are served, in threads and in this one, while this thread is the daemon.
use Rattle.std.specs.Prelude.{◌≡◌, ℕ, ◌≤◌, Bool, [], None, Vec, vec_len, vec_capacity}
use Rattle.log_disk.specs.declared.disk.LogDisk.{Ghosts}
use Rattle.log_disk.specs.declared.sink.Sink.{Ghosts as SinkGhosts}
use Rattle.log_rule.specs.Sends.{IsDrained}
use Rattle.log_table.specs.declared.table.LogTable.{LogTable}
use Rattle.log_table.specs.Seats.{view_of}
use Rattle.commit_pipeline.specs.declared.daemon.Daemon.{Daemon}
use Rattle.commit_pipeline.specs.Later.{Later}
use Rattle.commit_pipeline.specs.Turning.{IsSameDaemon, MayTurn}
use Rattle.job_queue.specs.declared.queue.Queue.{Queue}
use Rattle.cli_workers.specs.declared.workers.Worker.{Worker}
use Rattle.cli_threads.specs.declared.serving.Started.{Started}
use Rattle.cli_threads.specs.Workers.{AreDone, MayStartAll}

-- the workers may be started, there is room for each once it is back, and the daemon may turn where nothing befell it yet
pub record MayServeAll {D K X Y Z : Type 0} {g : Ghosts D} {h : SinkGhosts K} (table : LogTable) (queue : Queue) (size : ℕ)
    (hands : Vec Worker X) (places : Vec Started Y) (back : Vec Worker Z) (d : Daemon D K g h) : Type 0 where
  pub start : MayStartAll table queue size hands places
  pub none : back.items ≡ []
  pub room : vec_len hands ≤ vec_capacity back
  pub ready : d.fault ≡ None → MayTurn g d

-- So many workers are back, each of which did its work. Turns led from the one daemon to the other, which drained the log where nothing
-- befell it.
pub record ServesAll {D K Z : Type 0} (g : Ghosts D) (h : SinkGhosts K) (old new : Daemon D K g h) (table : LogTable) (queue : Queue)
    (wait : Bool) (size : ℕ) (hands : Vec Worker Z) : Type 0 where
  pub done : AreDone table queue wait hands.items
  pub count : vec_len hands ≡ size
  pub drained : new.fault ≡ None → IsDrained (view_of new.flusher.seat)
  pub later : Later g h old new
  pub same : IsSameDaemon g old new
