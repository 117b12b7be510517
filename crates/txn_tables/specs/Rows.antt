-- What a row says of places.
use Rattle.std.specs.Prelude.{◌≡◌, ◌==◌, ℕ, if◌then◌else◌, slice_index_or}
use Rattle.txn_tables.specs.declared.row.Row.{Row}

-- the number at a place, 0 where none was put
abbrev pub number_at : Row → ℕ → ℕ
number_at row place = slice_index_or row.numbers.items place 0

-- the row after a number was put at one place
abbrev pub PutsNumber : Row → Row → ℕ → ℕ → Type 0
PutsNumber old new place number = (other : ℕ) → number_at new other ≡ (if place == other then number else number_at old other)
