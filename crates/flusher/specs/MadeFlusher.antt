-- What a flusher is made of.
use Rattle.std.specs.Prelude.{◌≡◌}
use Rattle.std.specs.Borrow.{Bor, MutBor}
use Rattle.log_disk.specs.declared.disk.LogDisk.{Ghosts}
use Rattle.log_table.specs.declared.table.LogTable.{LogTable}
use Rattle.log_table.specs.declared.table.Seat.{Seat}
use Rattle.segment_file.specs.PackedBatch.{BatchState}
use Rattle.segment_file.specs.declared.scan_result.Tail.{Tail}
use Rattle.flusher.specs.declared.flusher.Flusher.{Flusher}

-- it has these parts, and the disk was so when it was made
pub record IsFlusherOf {D : Type 0} {g : Ghosts D} (over : Bor LogTable) (lent : MutBor D) (first_seat : Seat) (room : BatchState)
    (place : Tail) (before : D) (made : Flusher D g) : Type 0 where
  pub table : made.table ≡ over
  pub disk : made.disk ≡ lent
  pub seat : made.seat ≡ first_seat
  pub batch : made.batch ≡ room
  pub tail : made.tail ≡ place
  pub first : made.first.value ≡ before
