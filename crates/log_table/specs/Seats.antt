-- A seat of the table, and what a step makes of it.
use Rattle.std.specs.Prelude.{◌≡◌, [], ℕ}
use Rattle.log_table.specs.declared.table.LogTable.{LogTable}
use Rattle.log_table.specs.declared.table.Seat.{Seat}
use Rattle.log_rule.specs.declared.start.Start.{Start}
use Rattle.log_rule.specs.declared.view.View.{View}

-- what the seat knows and did
abbrev pub view_of : Seat → View
view_of seat = seat.base.me.0

-- the seat's number among the views
abbrev pub number_of : Seat → ℕ
number_of seat = seat.base.id

-- what the table was made with
abbrev pub key_of : LogTable → Start
key_of table = table.table.shared.key

-- the seat is this table's
pub record IsOf (table : LogTable) (seat : Seat) : Type 0 where
  pub table_is : seat.base.table_id ≡ table.table.shared.table_id
  pub no_slots : seat.base.me.1 ≡ []
  pub ring : (view_of seat).constants.ring ≡ table.ring
  pub slots : (view_of seat).constants.slots ≡ table.slots

-- the seat is the same one, with this view
pub record Becomes (old new : Seat) (view : View) : Type 0 where
  pub table_is : new.base.table_id ≡ old.base.table_id
  pub number : new.base.id ≡ old.base.id
  pub me : new.base.me ≡ (view, old.base.me.1)
  pub worker : new.worker ≡ old.worker
