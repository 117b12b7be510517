-- What a seat has inserted of its last job, and what is left.
use Rattle.std.specs.Prelude.{◌≡◌, ◌≢◌, ℕ, ◌+◌, ◌≤◌, false, List, [], ◌∷◌, ◌++◌}
use Rattle.log_record.specs.declared.rec.Rec.{Rec}
use Rattle.log_record.specs.declared.rec.Placed.{Placed}
use Rattle.log_record.specs.LogList.{size_of}
use Rattle.lock_core.specs.Transactions.{recs_of, in_order, has_commit}
use Rattle.log_table.specs.declared.table.Seat.{Seat}
use Rattle.log_rule.specs.declared.view.Books.{Books}
use Rattle.log_rule.specs.declared.view.Entry.{Entry}
use Rattle.log_rule.specs.declared.view.View.{View}
use Rattle.log_rule.specs.Books.{next_of, plan_of}
use Rattle.log_table.specs.Seats.{view_of}
use Rattle.ring_buffer.specs.Calls.{HasEntries, entry_of}
use Rattle.txn_jobs.specs.declared.cause.Cause.{Cause}
use Rattle.txn_parts.specs.declared.desk.Desk.{Desk}
pub use Rattle.txn_parts.specs.Stops.{StopsFor, IsLogEnd}

-- the entries lie one behind another, from the one LSN up to the other
abbrev pub LieInOrder : ℕ → ℕ → List Entry → Type 0
LieInOrder from to [] = from ≤ to
LieInOrder from to (entry ∷ entries) = (from ≤ entry.start) × LieInOrder (entry.start + entry.size) to entries

-- the entries behind those that were placed before, newest first
abbrev pub placed_behind : List Entry → List Placed → List Placed
placed_behind [] placed = placed
placed_behind (entry ∷ entries) placed = placed_behind entries (record { end = entry.start + entry.size; rec = entry.rec } ∷ placed)

-- the entries are placed, one after another
abbrev pub placing_all : List Entry → Books → Books
placing_all entries books = record books { placed = placed_behind entries books.placed }

-- the seat inserted these entries, each behind the tail as it had seen it
pub record Adds (added : List Entry) (old new : Seat) : Type 0 where
  pub entries : HasEntries old new ((view_of old).entries ++ added) (placing_all added (view_of old).books)
  pub within : LieInOrder (view_of old).seen.tail (view_of new).seen.tail added

-- the worker's seat inserted some entries so
abbrev pub HasAdded : {R Q G : Type 0} → Desk R Q G → Desk R Q G → Type 0
HasAdded old new = (added : List Entry) × Adds added old.seat.now new.seat.now

-- the seat inserted this record alone, which ends there
pub record PutsRecord (rec : Rec) (end : ℕ) (old new : Seat) : Type 0 where
  pub start : ℕ
  pub ends : end ≡ start + size_of rec
  pub adds : Adds (entry_of start rec ∷ []) old new

-- the next record of the worker's last job
abbrev pub next_at : {R Q G : Type 0} → Desk R Q G → Rec
next_at desk = next_of (view_of desk.seat.now).books

-- these records of the seat's last job are left: with those in the log before them they are all
abbrev pub IsLeft : List Rec → Books → Type 0
IsLeft rest books = in_order (recs_of books.placed) rest ≡ plan_of books

-- the seat's last job has no Commit, and for that cause these records of it are left, one at least
pub record IsCutOff (view : View) (cause : Cause) : Type 0 where
  pub rest : List Rec
  pub left : IsLeft rest view.books
  pub some : rest ≢ []
  pub stops : StopsFor cause rest view
  pub uncommitted : has_commit (recs_of view.books.placed) ≡ false
