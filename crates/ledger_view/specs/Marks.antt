-- The ends of rows, and those of them that are marked.
use Rattle.std.specs.Prelude.{◌≡◌, ◌<◌, ◌≤◌, ◌+◌, ◌*◌, ℕ, List, length, slice_index_or}
use Rattle.ledger_view.specs.declared.rows.Row.{Row}
use Rattle.ledger_view.specs.declared.rows.TheConstants.{MARKED}

-- where the first row ends, and each sixteenth behind it
pub record AreMarks (marks : List ℕ) (rows : List Row) : Type 0 where
  pub enough : length rows ≤ MARKED * length marks
  pub few : MARKED * length marks < length rows + MARKED
  pub each : (k otherwise : ℕ) (none : Row) → k < length marks
      → slice_index_or marks k otherwise ≡ (slice_index_or rows (MARKED * k) none).end
