-- What an insert gives its seat.
use Rattle.std.specs.Prelude.{◌++◌, ◌∷◌, ◌+◌, ◌≤◌, [], ℕ, Result, IfOk, IfErr}
use Rattle.lsn_space.specs.declared.lsn.TheConstants.{LAST}
use Rattle.log_table.specs.declared.table.Seat.{Seat}
use Rattle.log_rule.specs.Books.{next_of, placing}
use Rattle.log_table.specs.Seats.{view_of}
use Rattle.ring_buffer.specs.Calls.{HasEntries, KeepsEntries, SeesNoStop, entry_of}
use Rattle.ring_buffer.specs.declared.refused.Refused.{Refused}

-- the seat has its old entries and, behind them, the next record of its last job, of n units, at this LSN
abbrev pub HasInserted : Seat → Seat → ℕ → ℕ → Type 0
HasInserted old new n at = HasEntries old new ((view_of old).entries ++ entry_of at (next_of (view_of old).books) ∷ [])
    (placing (at + n) (next_of (view_of old).books) (view_of old).books)

-- The record of n units was inserted at the LSN that is answered, which isn't below the tail as the seat had seen it; or there was no room,
-- of which this is known. The seat saw nothing of the stop word.
pub record Inserts (IsRefusal : Refused → Type 0) (old new : Seat) (n : ℕ) (result : Result ℕ Refused) : Type 0 where
  pub inserted : IfOk result (HasInserted old new n)
  pub behind : IfOk result (λ at. (view_of old).seen.tail ≤ at)
  pub seen : IfOk result (λ at. at + n ≤ (view_of new).seen.tail)
  pub fits : IfOk result (λ at. at + n ≤ LAST)
  pub kept : IfErr result (λ e. KeepsEntries old new)
  pub refused : IfErr result IsRefusal
  pub stop : SeesNoStop old new
