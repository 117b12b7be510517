-- A run before the first worker has started, and once all workers have served.
use Rattle.std.specs.Prelude.{◌≡◌, ℕ, ◌+◌, ◌*◌, ◌^◌, ◌≤◌, Bool, List, [], None, All, length, map, vec_len, vec_capacity}
use Rattle.std.specs.List.{AllByRecursion}
use Rattle.log_disk.specs.declared.disk.LogDisk.{Ghosts}
use Rattle.log_disk.specs.declared.sink.Sink.{Ghosts as SinkGhosts}
use Rattle.segment_file.specs.declared.scan_result.Tail.{Tail}
use Rattle.segment_file.specs.Log.{Log}
use Rattle.segment_file.specs.StandingLog.{IsShut, LogStands}
use Rattle.lock_core.specs.Transfers.{IsAllowedJob}
use Rattle.log_table.specs.declared.table.LogTable.{LogTable}
use Rattle.log_table.specs.declared.table.Seat.{Seat}
use Rattle.log_table.specs.HiredWorkers.{HasHired}
use Rattle.log_table.specs.Seats.{IsOf, key_of, view_of}
use Rattle.log_rule.specs.ClosedLog.{HasHeardOfWorkers, IsGathered, HasLedger}
use Rattle.log_rule.specs.May.{MayClose}
use Rattle.log_rule.specs.Sends.{IsDrained}
use Rattle.log_rule.specs.Sound.{HasReadStop, base_of}
use Rattle.commit_pipeline.specs.Later.{Later}
use Rattle.commit_pipeline.specs.declared.daemon.Daemon.{Daemon}
use Rattle.end_lines.specs.declared.voice.Voice.{Voice}
use Rattle.commit_pipeline.specs.Turning.{IsMade}
use Rattle.txn_jobs.specs.declared.cause.Worked.{Worked}
use Rattle.cli_ending.specs.declared.conclusion.RunEnd.{RunEnd}
use Rattle.job_queue.specs.declared.jobs.Jobs.{Jobs}
use Rattle.job_queue.specs.declared.queue.Queue.{Queue}
use Rattle.job_queue.specs.Passes.{HasFirstPass, marks_back, passes_out, places_back, workers_of}
use Rattle.cli_threads.specs.declared.transfers.Crew.{Crew}
use Rattle.cli_threads.specs.declared.transfers.Hands.{Hands}
use Rattle.cli_threads.specs.declared.room.Room.{Room}
use Rattle.cli_threads.specs.declared.transfers.Prepared.{Prepared}
use Rattle.cli_workers.specs.declared.workers.Worker.{Worker}
use Rattle.cli_workers.specs.declared.relief.FlushingRelief.{FlushingRelief}
use Rattle.cli_workers.specs.Workers.{AreUnused}
use Rattle.cli_threads.specs.declared.transfers.Served.{Served}
use Rattle.cli_threads.specs.Gathering.{AreFront, all_marks, all_places, takes_all, view_in, worked_of}
use Rattle.cli_threads.specs.Workers.{AreDone}

-- there is room for so many workers
pub record HasRoomFor (workers : ℕ) (room : Room) : Type 0 where
  pub none : (room.started.items ≡ []) × (room.back.items ≡ []) × (room.ends.items ≡ [])
  pub started : workers ≤ vec_capacity room.started
  pub back : workers ≤ vec_capacity room.back
  pub ends : workers ≤ vec_capacity room.ends

-- so many workers have taken nothing yet, and there is room for what is to come of them
pub record AreReady (table : LogTable) (queue : Queue) (size : ℕ) (hands : Hands) : Type 0 where
  pub workers : AreUnused table queue hands.workers.items
  pub count : vec_len hands.workers ≡ size
  pub room : HasRoomFor size hands.room

-- All of so many workers are enrolled, as the flusher's seat knows, and there is room for all that they and the daemon need.
pub record IsCrew (table : LogTable) (queue : Queue) (size : ℕ) (crew : Crew) : Type 0 where
  pub flusher_seat : HasHired table size crew.flusher_seat
  pub batch : table.ring ≤ crew.batch.room
  pub hands : AreReady table queue size crew.hands

-- each of the workers, one at least, has its pass, and nothing was given back yet
pub record AreEnlisted (jobs : Jobs) : Type 0 where
  pub first : HasFirstPass jobs
  pub someone : 1 ≤ workers_of jobs
  pub out : passes_out jobs ≡ workers_of jobs
  pub none_back : (places_back jobs ≡ []) × (marks_back jobs ≡ [])

-- the table allows the transfers, and each of so many workers has its pass
pub record MayBeTaken (table : LogTable) (size : ℕ) (jobs : Jobs) : Type 0 where
  pub allowed : All (IsAllowedJob table.accounts) jobs.queue.script
  pub enlisted : AreEnlisted jobs
  pub flags : size ≡ workers_of jobs

-- The table allows the transfers, each worker has its flag and its pass, and the crew is made for them.
pub record IsPrepared (prepared : Prepared) : Type 0 where
  pub flags : vec_len prepared.refused ≡ workers_of prepared.jobs
  pub allowed : All (IsAllowedJob prepared.table.accounts) prepared.jobs.queue.script
  pub enlisted : AreEnlisted prepared.jobs
  pub crew : IsCrew prepared.table prepared.jobs.queue (workers_of prepared.jobs) prepared.crew

-- A log stands on the disk up to this tail, where the table begins.
pub record MayGoOn {D : Type 0} (g : Ghosts D) (tail : Tail) (table : LogTable) (disk : D) : Type 0 where
  pub stand : g.honest disk → (opened : Log) × LogStands tail opened (g.images disk)
  pub shut : g.honest disk → IsShut tail.at (g.images disk)
  pub next : tail.next ≡ (key_of table).start
  pub place : tail.at ≤ 2 ^ 63 + 16 * tail.next

-- A daemon was made just now over this seat, disk and sink, at this tail, and has counted nothing.
pub record IsBegun {D : Type 0} {K : Type 0} (g : Ghosts D) (h : SinkGhosts K) (tail : Tail) (voice : Voice) (seat : Seat) (disk : D) (sink : K)
    (d : Daemon D K g h) : Type 0 where
  pub made : IsMade d
  pub fine : d.fault ≡ None
  pub speaks : d.voice ≡ voice
  pub tail_is : d.flusher.tail ≡ tail
  pub seat_is : d.flusher.seat ≡ seat
  pub disk_is : d.flusher.disk.now ≡ disk
  pub sink_is : d.sink.now ≡ sink
  pub none_counted : (d.tally.done ≡ 0) × (d.tally.refused ≡ 0)

-- Turns led from the first daemon to the last, and so many workers did their work. Then its seat took in theirs, which left this daemon, and
-- the first pass theirs; and the log was drained where nothing befell that.
pub record HasServedAll {D : Type 0} {K : Type 0} (g : Ghosts D) (h : SinkGhosts K) (table : LogTable) (queue : Queue) (size : ℕ) (wait : Bool)
    (first left : Daemon D K g h) (ends : List Worked) : Type 0 where
  pub last : Daemon D K g h
  pub workers : List Worker
  pub later : Later g h first last
  pub done : AreDone table queue wait workers
  pub count : length workers ≡ size
  pub front : AreFront (length queue.script) (all_places workers) (all_marks workers)
  pub stops : AllByRecursion (HasReadStop (view_of last.flusher.seat).sending.stop) (map view_in workers)
  pub drained : last.fault ≡ None → IsDrained (view_of last.flusher.seat)
  pub seat : IsOf table left.flusher.seat
  pub view : view_of left.flusher.seat ≡ takes_all (view_of last.flusher.seat) (map view_in workers)
  pub ends_are : ends ≡ map worked_of workers
  pub fault_is : last.fault ≡ left.fault
  pub done_is : last.tally.done ≡ left.tally.done
  pub refused_is : last.tally.refused ≡ left.tally.refused
  pub disk_is : last.flusher.disk.now ≡ left.flusher.disk.now
  pub sink_is : last.sink.now ≡ left.sink.now

-- this relief has served: its daemon may be taken apart, since all workers' seats were taken in
pub record MayBeTakenApart {D : Type 0} {K : Type 0} {g : Ghosts D} {h : SinkGhosts K} (relief : FlushingRelief D K g h) : Type 0 where
  pub over : MayClose (view_of relief.daemon.flusher.seat)

-- What is left of the daemon and of the works, but for disk and sink. The table may be closed with this seat.
pub record IsLeftOf {D : Type 0} {K : Type 0} (g : Ghosts D) (h : SinkGhosts K) (left : Daemon D K g h) (ends : List Worked) (served : Served)
    : Type 0 where
  pub fault : left.fault ≡ served.fault
  pub done : left.tally.done ≡ served.done
  pub refused : left.tally.refused ≡ served.refused
  pub ends_are : served.ends.items ≡ ends
  pub flusher_seat : served.flusher_seat ≡ left.flusher.seat
  pub over : MayClose (view_of served.flusher_seat)

-- A daemon was made just now, over this seat, disk and sink, and the crew was served by it; this is left, with these disk and sink.
pub record HasTurned {D : Type 0} {K : Type 0} (g : Ghosts D) (h : SinkGhosts K) (table : LogTable) (queue : Queue) (size : ℕ) (wait : Bool)
    (tail : Tail) (voice : Voice) (flusher_seat : Seat) (disk disk_new : D) (sink sink_new : K) (served : Served) : Type 0 where
  pub first : Daemon D K g h
  pub left : Daemon D K g h
  pub ends : List Worked
  pub begun : IsBegun g h tail voice flusher_seat disk sink first
  pub crew : HasServedAll g h table queue size wait first left ends
  pub rest : IsLeftOf g h left ends served
  pub disk_is : left.flusher.disk.now ≡ disk_new
  pub sink_is : left.sink.now ≡ sink_new

-- the table may be closed
pub record IsOver (table : LogTable) (served : Served) : Type 0 where
  pub seat : IsOf table served.flusher_seat
  pub over : MayClose (view_of served.flusher_seat)

-- the table was closed, and nothing else is told than was left
pub record IsEndOf (table : LogTable) (ended : RunEnd) (served : Served) : Type 0 where
  pub fault : served.fault ≡ ended.fault
  pub done : served.done ≡ ended.done
  pub refused : served.refused ≡ ended.refused
  pub ends_are : served.ends.items ≡ ended.ends.items
  pub gathered : IsGathered ended.closed.tail (view_of served.flusher_seat)
  pub accounts : HasLedger (base_of (key_of table)) (view_of served.flusher_seat) ended.closed.accounts.rows
  pub heard : HasHeardOfWorkers (view_of served.flusher_seat)
