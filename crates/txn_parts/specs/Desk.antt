-- A worker's desk, and what is said of two of them, before and after a call.
use Rattle.std.specs.Prelude.{◌≡◌, ℕ}
use Rattle.log_rule.specs.declared.view.Books.{Books}
use Rattle.log_rule.specs.declared.view.View.{View}
use Rattle.log_table.specs.Seats.{IsOf, view_of}
use Rattle.ring_buffer.specs.Calls.{IsReady, IsSameWorker, HasEntries}
use Rattle.txn_parts.specs.declared.desk.Desk.{Desk}
use Rattle.txn_parts.specs.declared.relief.Relief.{Ghosts}

-- what the seat knows and did
abbrev pub view_at : {R Q G : Type 0} → Desk R Q G → View
view_at desk = view_of desk.seat.now

abbrev pub books_at : {R Q G : Type 0} → Desk R Q G → Books
books_at desk = (view_of desk.seat.now).books

-- how many accounts the table has
abbrev pub accounts_at : {R Q G : Type 0} → Desk R Q G → ℕ
accounts_at desk = desk.table.now.accounts

-- the seat is the table's, enrolled, and has nothing under way; the relief may be asked to rest
pub record IsAtWork {R Q G : Type 0} (g : Ghosts Q) (desk : Desk R Q G) : Type 0 where
  pub seat : IsOf desk.table.now desk.seat.now
  pub ready : IsReady (view_of desk.seat.now)
  pub relief : g.ready desk.relief.now

-- the same worker works on at the same table: its seat has seen no less, and its relief rested any number of times
pub record WorksOn {R Q G : Type 0} (g : Ghosts Q) (old new : Desk R Q G) : Type 0 where
  pub table : new.table ≡ old.table
  pub seat : new.seat.ghost_name ≡ old.seat.ghost_name
  pub relief : new.relief.ghost_name ≡ old.relief.ghost_name
  pub at_work : IsAtWork g new
  pub same : IsSameWorker old.seat.now new.seat.now
  pub later : g.later old.relief.now new.relief.now

-- the seat may have looked at the table, and has the entries and the books that it had
abbrev pub HasOnlyLooked : {R Q G : Type 0} → Desk R Q G → Desk R Q G → Type 0
HasOnlyLooked old new = HasEntries old.seat.now new.seat.now (view_of old.seat.now).entries (view_of old.seat.now).books
