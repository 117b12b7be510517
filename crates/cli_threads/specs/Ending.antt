-- How a run ended. `g` is what a disk shows and `h` what a sink shows.
use Rattle.std.specs.Prelude.{◌≡◌, ℕ, Bool, true, List, length, map}
use mathlib.Core.Option.{some}
use lib.ListN.{get_elem?}
use Rattle.log_disk.specs.declared.disk.LogDisk.{Ghosts}
use Rattle.log_disk.specs.declared.sink.Sink.{Ghosts as SinkGhosts}
use Rattle.log_recovery.specs.Opened.{OpenedList}
use Rattle.segment_file.specs.declared.scan_result.Tail.{Tail}
use Rattle.log_rule.specs.declared.view.View.{View}
use Rattle.log_table.specs.Seats.{key_of}
use Rattle.commit_pipeline.specs.declared.daemon.Daemon.{Daemon}
use Rattle.end_lines.specs.declared.voice.Voice.{Voice}
use Rattle.cli_ending.specs.declared.conclusion.RunEnd.{RunEnd}
use Rattle.job_queue.specs.Passes.{jobs_of, workers_of}
use Rattle.cli_threads.specs.declared.transfers.Prepared.{Prepared}
use Rattle.cli_threads.specs.Shares.{Share}
use Rattle.cli_threads.specs.Transferred.{HasTransferred}
use Rattle.cli_threads.specs.Waiting.{HaveWaited, made_of}

-- Turns led from a daemon over the one disk and sink, which went on at this tail, to one over the other, and the transfers ended so.
-- Where workers wait, each transfer that they made, but for one that was cut off, gave its accounts back once its end was durable.
pub record HasEnded {D : Type 0} {K : Type 0} (g : Ghosts D) (h : SinkGhosts K) (prepared : Prepared) (opened : OpenedList) (tail : Tail)
    (voice : Voice) (wait : Bool) (disk disk_new : D) (sink sink_new : K) (ended : RunEnd) : Type 0 where
  pub front : ℕ
  pub shares : List Share
  pub count : length shares ≡ workers_of prepared.jobs
  pub first : Daemon D K g h
  pub last : Daemon D K g h
  pub view : View
  pub transferred : HasTransferred g h opened (jobs_of prepared.jobs.queue) front shares (key_of prepared.table) first last view
      ended.closed.tail ended.closed.accounts.rows
  pub ends : map (λ (share : Share). share.worked) shares ≡ ended.ends.items
  pub waited : wait ≡ true → (worker : ℕ) (share : Share) → get_elem? shares worker ≡ some share
      → HaveWaited (jobs_of prepared.jobs.queue) (made_of share.taken share.worked) view.entries view.books.given
  pub fault : last.fault ≡ ended.fault
  pub none_counted : (first.tally.done ≡ 0) × (first.tally.refused ≡ 0)
  pub done_is : last.tally.done ≡ ended.done
  pub refused_is : last.tally.refused ≡ ended.refused
  pub speaks : first.voice ≡ voice
  pub tail_is : first.flusher.tail ≡ tail
  pub disk_old : first.flusher.disk.now ≡ disk
  pub disk_is : last.flusher.disk.now ≡ disk_new
  pub sink_old : first.sink.now ≡ sink
  pub sink_is : last.sink.now ≡ sink_new
