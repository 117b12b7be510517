-- Workers that the flusher's seat hired, one after another. Each has a number, from 0 on.
use Rattle.std.specs.Prelude.{◌≡◌, ℕ, zero, suc, true, List, [], ◌∷◌, Contains}
use Rattle.log_table.specs.declared.table.LogTable.{LogTable}
use Rattle.log_table.specs.declared.table.Seat.{Seat}
use Rattle.log_rule.specs.declared.start.Start.{Start}
use Rattle.log_rule.specs.declared.view.Role.TheVariants.{Flusher}
use Rattle.log_rule.specs.declared.view.View.{View}
use Rattle.log_rule.specs.Books.{no_books}
use Rattle.log_table.specs.Seats.{IsOf, view_of, key_of}
use Rattle.log_rule.specs.Views.{constants_of, sending_from, knows_all_enrolled}

-- the numbers of n workers, the last first
abbrev pub hired_numbers : ℕ → List ℕ
hired_numbers zero = []
hired_numbers (suc n) = n ∷ hired_numbers n

-- The flusher's seat made the workers below this number and no others, and knows each of them as enrolled. It took in none of their work,
-- and sent nothing.
pub record KnowsHired (key : Start) (workers : ℕ) (view : View) : Type 0 where
  pub flusher : view.standing.role ≡ Flusher
  pub made : view.standing.made ≡ hired_numbers workers
  pub told : knows_all_enrolled view.standing ≡ true
  pub merged : view.standing.merged ≡ []
  pub constants : view.constants ≡ constants_of key
  pub sending : view.sending ≡ sending_from key.start
  pub seen : Contains view.seen.lsns key.start
  pub entries : view.entries ≡ []
  pub books : view.books ≡ no_books

-- so it is with the table's flusher's seat
pub record HasHired (table : LogTable) (workers : ℕ) (flusher_view : Seat) : Type 0 where
  pub seat : IsOf table flusher_view
  pub knows : KnowsHired (key_of table) workers (view_of flusher_view)
