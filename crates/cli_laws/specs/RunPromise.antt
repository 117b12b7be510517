-- What a run promises.
use Rattle.std.specs.Prelude.{◌≡◌, ℕ, List, None}
use Rattle.std.specs.List.{AllByRecursion}
use mathlib.Core.Option.{some}
use lib.ListN.{get_elem?}
use Rattle.log_disk.specs.declared.disk.LogDisk.{Ghosts}
use Rattle.log_disk.specs.declared.sink.Sink.{Ghosts as SinkGhosts}
use Rattle.log_recovery.specs.Opened.{OpenedList}
use Rattle.log_rule.specs.declared.start.Start.{Start}
use Rattle.log_rule.specs.declared.view.View.{View}
use Rattle.log_rule.specs.ClosedLog.{records_of}
use Rattle.commit_pipeline.specs.declared.daemon.Daemon.{Daemon}
use Rattle.commit_pipeline.specs.Later.{HasReason}
use Rattle.commit_pipeline.specs.Turning.{IsSameDaemon}
use Rattle.txn_jobs.specs.Places.{NumberedJobs}
use Rattle.txn_jobs.specs.declared.cause.Cause.TheVariants.{LogEnd, Stop}
use Rattle.txn_jobs.specs.declared.cause.Worked.TheVariants.{All, Cut}
use Rattle.cli_threads.specs.Run.{RunKeepsLog, RunIsDrained, RunsWhole}
use Rattle.cli_threads.specs.RunStops.{StopsAtLogEnd}
use Rattle.cli_threads.specs.Shares.{Share, sharing_of}

-- Of the records that it inserted, in order, each image holds a prefix behind the opened list, and all of them where the log was drained.
-- A stop word cut a worker off only where there is a fault, and a fault has its reason.
pub record KeepsPromise {D : Type 0} {K : Type 0} (g : Ghosts D) (h : SinkGhosts K) (opened : OpenedList) (jobs : NumberedJobs) (front : ℕ)
    (shares : List Share) (key : Start) (old new : Daemon D K g h) (view : View) (lsn : ℕ) (rows : List (ℕ × ℕ)) : Type 0 where
  pub keeps : RunKeepsLog g old.voice opened jobs (sharing_of front shares) (records_of view.entries) old.flusher.tail.at key.ring
      old.flusher.disk.now new.flusher.disk.now (h.held_bytes old.sink.now) (h.held_bytes new.sink.now)
  pub drained : new.fault ≡ None → RunIsDrained g old.voice opened (records_of view.entries) old.flusher.tail.at key.ring
      old.flusher.disk.now new.flusher.disk.now (h.held_bytes old.sink.now) (h.held_bytes new.sink.now) lsn rows
  pub whole : AllByRecursion (λ (share : Share). share.worked ≡ All) shares → RunsWhole opened jobs (records_of view.entries)
  pub log_end : new.fault ≡ None → (worker : ℕ) (taken : List ℕ) (tail total : ℕ)
      → get_elem? shares worker ≡ some (record { taken = taken; worked = Cut (LogEnd tail total) })
      → StopsAtLogEnd opened jobs (sharing_of front shares) (records_of view.entries) key.ring key.slots tail total
  pub stop : new.fault ≡ None → (worker : ℕ) (taken : List ℕ) (word : ℕ)
      → get_elem? shares worker ≡ some (record { taken = taken; worked = Cut (Stop word) }) → ⊥
  pub reason : HasReason g h old new
  pub same : IsSameDaemon g old new
