-- The tables of tests, and what their seats do.
use Rattle.std.specs.Prelude.{◌≡◌, ◌≤◌, ℕ, [], ◌∷◌}
use Rattle.lsn_space.specs.declared.opening.TheConstants.{MOST_BALANCE}
use Rattle.log_rule.specs.Views.{sent_to}
use Rattle.log_table.specs.HiredWorkers.{HasHired}
use Rattle.log_table.specs.Seats.{IsOf, key_of, view_of}
use Rattle.log_table.specs.declared.table.LogTable.{LogTable}
use Rattle.log_table.specs.declared.table.Seat.{Seat}

-- two balances within their range
abbrev pub AreBalances : ℕ × ℕ → Type 0
AreBalances balances = (balances.0 ≤ MOST_BALANCE) × (balances.1 ≤ MOST_BALANCE)

-- a table of two accounts with these balances, over a log that ends here, with so many slots; and the seat of its flusher, who has hired none
pub record IsTableOf (balances : ℕ × ℕ) (end slots_made : ℕ) (table : LogTable) (flusher : Seat) : Type 0 where
  pub flusher_seat : HasHired table 0 flusher
  pub ring : table.ring ≡ 1024
  pub slots : table.slots ≡ slots_made
  pub accounts : table.accounts ≡ 2
  pub start : (key_of table).start ≡ end
  pub rows : (key_of table).accounts.rows ≡ (balances.0, 0) ∷ (balances.1, 0) ∷ []

-- what a seat stands for stays
abbrev pub KeepsStanding : Seat → Seat → Type 0
KeepsStanding old new = (view_of new).standing ≡ (view_of old).standing

-- the flusher's seat has sent all up to this LSN, with nothing of its own changed
pub record SendsAll (table : LogTable) (end : ℕ) (old new : Seat) : Type 0 where
  pub flusher_seat : IsOf table new
  pub standing : KeepsStanding old new
  pub entries : (view_of new).entries ≡ (view_of old).entries
  pub rests : (view_of new).sending.read ≡ []
  pub to : sent_to (view_of new) ≡ end
