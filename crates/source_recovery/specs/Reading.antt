-- What a reader has read of a log. `first` is what the source told when the reading began, `before` and `now` what it tells before and
-- after a call.
use Rattle.std.specs.Prelude.{◌≡◌, ◌<◌, ◌≤◌, ◌+◌, ℕ, List, [], ◌++◌, Option, length}
use Rattle.lsn_space.specs.declared.lsn.TheConstants.{LAST}
use Rattle.segment_file.specs.Log.{Log, with_units, log_end, ReadsTo}
use Rattle.segment_file.specs.StandingLog.{LogStandsAt, tail_at}
use Rattle.segment_file.specs.declared.scan_result.Tail.{Tail}
use Rattle.source_recovery.specs.Window.{WindowView, HasPassed, GaveAll}

-- a window, how many bytes are passed, and the LSN at which the batches that were taken end
pub record ReaderView : Type 0 where
  pub window : WindowView
  pub at : ℕ
  pub next : ℕ

-- the reader has passed a front and batches that hold this log
pub record HasReadLog (first now : Option (List ℕ)) (reader : ReaderView) (log : Log) : Type 0 where
  pub passed : List ℕ
  pub given : HasPassed first now reader.window passed
  pub reads : ReadsTo passed log []
  pub at : reader.at ≡ length passed
  pub next : reader.next ≡ log_end log

-- one batch was read, whose units are added: the reader goes on at their end, and has passed a log that has them too
pub record ReadsBatch (before now : Option (List ℕ)) (old new : ReaderView) (units units_new : List ℕ) : Type 0 where
  pub more : List ℕ
  pub some : 0 < length more
  pub added : units_new ≡ units ++ more
  pub next : new.next ≡ old.next + length more
  pub total : new.next ≤ LAST
  pub reads : (first : Option (List ℕ)) (log : Log) → HasReadLog first before old log → HasReadLog first now new (with_units log more)

-- the source gave all its bytes, and they hold this log, which goes on at this tail
pub record EndsLog (first now : Option (List ℕ)) (tail : Tail) (log : Log) : Type 0 where
  pub bytes : List ℕ
  pub gave : GaveAll first now bytes
  pub stands : LogStandsAt tail log bytes

-- the log has no batch more: the units and the tail are as before, and the source was read to its end
pub record ReadsEnd (before now : Option (List ℕ)) (old new : ReaderView) (units units_new : List ℕ) : Type 0 where
  pub units_are : units_new ≡ units
  pub at : new.at ≡ old.at
  pub next : new.next ≡ old.next
  pub ends : (first : Option (List ℕ)) (log : Log) → HasReadLog first before old log → EndsLog first now (tail_at old.at old.next) log
