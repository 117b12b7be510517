-- How units go from the ring into a batch.
use Rattle.std.specs.Prelude.{◌≡◌, ℕ, ◌+◌, ◌<◌, ◌≤◌, List, length}
use Rattle.log_table.specs.declared.table.Seat.{Seat}
use Rattle.log_rule.specs.declared.start.Start.{Start}
use Rattle.log_rule.specs.declared.view.Role.TheVariants.{Flusher}
use Rattle.log_rule.specs.declared.view.View.{View}
use Rattle.log_table.specs.Seats.{Becomes, number_of, view_of}
use Rattle.log_rule.specs.Moments.{HoldsAtOnce}
use Rattle.log_rule.specs.Sends.{ReadsWholeEntries}
use Rattle.log_rule.specs.Views.{read_to}
use Rattle.segment_file.specs.PackedBatch.{BatchState}
use Rattle.flusher.specs.SentUnits.{read_units}

-- the units from the one LSN to the other are the next to be read
pub record MayGather (from to : ℕ) (view : View) : Type 0 where
  pub flusher : view.standing.role ≡ Flusher
  pub next : from ≡ read_to view
  pub forward : from ≤ to
  pub released : to ≤ view.sending.exposed

-- They were read, and are the units of the batch; once they end at exposed they are whole entries. Then the rule of the table, which was
-- made with this key, holds of some views of all seats, this seat's among them.
pub record Gathers (key : Start) (from to : ℕ) (old new : Seat) (before after : BatchState) : Type 0 where
  pub units : List ℕ
  pub whole : to ≡ from + length units
  pub seat : Becomes old new (read_units units (view_of old))
  pub batch : after ≡ record before { units = units }
  pub entries : from < to → ReadsWholeEntries (view_of new)
  pub at_once : HoldsAtOnce key (number_of new) (view_of new)
