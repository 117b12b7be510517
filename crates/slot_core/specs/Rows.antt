-- What the rows of the program stand for.
use Rattle.std.specs.Prelude.{ℕ, ◌==◌, Bool}
use Rattle.slot_core.specs.State.{Hand}

-- the row is this actor's
abbrev pub is_row_of : ℕ → Hand → Bool
is_row_of actor h = h.actor == actor
