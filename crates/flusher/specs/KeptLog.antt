-- What a crash may leave as long as a flusher has the disk. `first` is the disk as it was when the flusher was made, and `disk` as it is
-- now. `sent` are the units that were sent since then, and `read` those that were read from the ring behind them and are not sent.
use Rattle.std.specs.Prelude.{◌≡◌, ◌⊎◌, ◌≤◌, ℕ, ◌+◌, List, [], ◌++◌, length}
use Rattle.log_disk.specs.declared.disk.LogDisk.{Ghosts}
use Rattle.log_record.specs.declared.rec.Rec.{Rec}
use Rattle.log_record.specs.LogList.{AreUnitsOf, units_of}
use Rattle.log_table.specs.declared.table.Seat.{Seat}
use Rattle.log_table.specs.Seats.{view_of}
use Rattle.segment_file.specs.Log.{Log, with_units, HoldsLog}
use Rattle.segment_file.specs.StandingLog.{LogStands, HoldsLogOrMore}
use Rattle.segment_file.specs.declared.scan_result.Tail.{Tail}

-- what the flusher's seat sent, and what it read behind that and did not send
abbrev pub sent_by : Seat → List ℕ
sent_by seat = (view_of seat).sending.sent

abbrev pub read_by : Seat → List ℕ
read_by seat = (view_of seat).sending.read

-- the bytes hold this log, and then the units of a prefix of the records
pub record HoldsFront (before : Log) (records : List Rec) (bytes : List ℕ) : Type 0 where
  pub front : List Rec
  pub rest : List Rec
  pub whole : records ≡ front ++ rest
  pub holds : HoldsLog bytes (with_units before (units_of front))

-- the bytes hold the opened log and a prefix of the records sent, or all of these and the whole batch in flight
abbrev pub HoldsSome : Log → List Rec → List ℕ → List ℕ → Type 0
HoldsSome opened records read bytes = HoldsFront opened records bytes
    ⊎ HoldsLog bytes (with_units (with_units opened (units_of records)) read)

-- A log, the opened one, was in each image when the flusher was made, and what a read gave then is one. Each image since then holds it and
-- a prefix of the records sent, or all of these and the batch in flight. Each image now holds it and all that was sent, or that and the
-- batch in flight; where none is in flight the log goes on at the tail.
pub record KeepsLog {D : Type 0} (g : Ghosts D) (first disk : D) (tail : Tail) (sent read : List ℕ) : Type 0 where
  pub opened : Log
  pub began : (c : List ℕ) → g.images first c → HoldsLog c opened
  pub shown : g.images first (g.reads first)
  pub records : List Rec
  pub spelled : AreUnitsOf sent records
  pub later : g.moment first ≤ g.moment disk
  pub moments : (c : List ℕ) → g.images_since disk (g.moment first) c → HoldsSome opened records read c
  pub now : (c : List ℕ) → g.images disk c → HoldsLogOrMore (with_units opened sent) read c
  pub goes_on : read ≡ [] → LogStands tail (with_units opened sent) (g.images disk)

-- the bytes hold a list in which these units stand from this LSN on
pub record StandsFrom (from : ℕ) (units bytes : List ℕ) : Type 0 where
  pub log : Log
  pub before : List ℕ
  pub after : List ℕ
  pub holds : HoldsLog bytes log
  pub whole : log.units ≡ before ++ (units ++ after)
  pub from_is : from ≡ log.opening.lsn + length before

-- so does each image
abbrev pub StandsInAll : {D : Type 0} → Ghosts D → D → ℕ → List ℕ → Type 0
StandsInAll g disk from units = g.honest disk → (c : List ℕ) → g.images disk c → ∥ StandsFrom from units c ∥₁
