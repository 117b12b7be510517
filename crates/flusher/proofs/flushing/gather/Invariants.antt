use Rattle.std.proofs.Common.{◌≡◌, ◌<◌, ◌≤◌, ◌+◌, length}
use Rattle.log_table.specs.Seats.{Becomes, view_of}
use Rattle.log_rule.specs.Sends.{ReadsWholeEntries}
use Rattle.flusher.specs.SentUnits.{read_units}
use Rattle.flusher.proofs.flushing.gather.Given as goal

-- the units read so far are those of the batch
abbrev pub invariant-loop-at : goal.invariant-loop-at
invariant-loop-at l = record {
  same : l.table ≡ l.initial.table;
  end : l.at-end ≡ l.fn.to;
  next : l.at ≡ l.fn.from + length l.batch.units;
  below : l.at ≤ l.at-end;
  seat : Becomes l.initial.seat l.seat (read_units l.batch.units (view_of l.initial.seat));
  room : l.batch.room ≡ l.initial.batch.room;
  entries : l.fn.from < l.at → ReadsWholeEntries (view_of l.seat);
}
